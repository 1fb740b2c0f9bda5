use Rattle.sd_turnstile.proofs.seat.Turnstile.split.Given as goal

abbrev pub ghosts-split_told : goal.ghosts-split_told
ghosts-split_told g a = record { number = a.place.now.id }
