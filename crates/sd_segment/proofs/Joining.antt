-- What strangers and failures do in one part after another.
use Rattle.std.specs.Prelude.{nat_lt}
use Rattle.std.proofs.Common.{◌≡◌, ℕ, ◌+◌, Bool, true, false, cond, List, [], ◌∷◌, ◌++◌, length, ap, arith}
use Rattle.sd_config.specs.declared.config.Config.{Config}
use Rattle.sd_config.specs.Plan.{Strays, FailingSends}
use Rattle.sd_link.specs.World.{World}
use Rattle.sd_link.specs.Steps.{Step, Send, Fail, after, run}
use Rattle.sd_link.specs.Lawful.{AllStrayAsNamed, AllFailAsNamed, named_sends}
use Rattle.sd_link.specs.Link.{last_tick}
use Rattle.sd_segment.specs.Failing.{early_fails}

pub strays-append : (strays : Strays) (c : Config) (w : World) (xs ys : List Step) → AllStrayAsNamed strays c w xs → AllStrayAsNamed strays c (run c w xs) ys → AllStrayAsNamed strays c w (xs ++ ys)
strays-append strays c w [] ys first second = second
strays-append strays c w (x ∷ xs) ys first second = (first.0, strays-append strays c (after c w x) xs ys first.1 second)

pub sends_fail-append : (sends : FailingSends) (c : Config) (w : World) (xs ys : List Step) → AllFailAsNamed sends c w xs → AllFailAsNamed sends c (run c w xs) ys → AllFailAsNamed sends c w (xs ++ ys)
sends_fail-append sends c w [] ys first second = second
sends_fail-append sends c w (Send packet ∷ xs) ys first second =
    (λ named. let f = first.0 named in (f.0 ++ ys, ap (λ (l : List Step). l ++ ys) f.1), sends_fail-append sends c (after c w (Send packet)) xs ys first.1 second)
sends_fail-append sends c w (x ∷ xs) ys first second = sends_fail-append sends c (after c w x) xs ys first second

one_more : (b : Bool) (deep front back : ℕ) → deep ≡ front + back → cond b (deep + 1) deep ≡ cond b (front + 1) front + back
one_more true deep front back e = omega (arith, e)
one_more false deep front back e = e

pub named-append : (sends : FailingSends) (c : Config) (w : World) (xs ys : List Step) → named_sends sends c w (xs ++ ys) ≡ named_sends sends c w xs + named_sends sends c (run c w xs) ys
named-append sends c w [] ys = omega arith
named-append sends c w (Send packet ∷ xs) ys =
    one_more (sends (length w.flight)) (named_sends sends c (after c w (Send packet)) (xs ++ ys)) (named_sends sends c (after c w (Send packet)) xs) (named_sends sends c (run c (after c w (Send packet)) xs) ys)
    (named-append sends c (after c w (Send packet)) xs ys)
named-append sends c w (x ∷ xs) ys = named-append sends c (after c w x) xs ys

pub early-append : (c : Config) (w : World) (xs ys : List Step) → early_fails c w (xs ++ ys) ≡ early_fails c w xs + early_fails c (run c w xs) ys
early-append c w [] ys = omega arith
early-append c w (Fail ∷ xs) ys = one_more (nat_lt w.tick last_tick) (early_fails c w (xs ++ ys)) (early_fails c w xs) (early_fails c (run c w xs) ys) (early-append c w xs ys)
early-append c w (x ∷ xs) ys = early-append c (after c w x) xs ys
