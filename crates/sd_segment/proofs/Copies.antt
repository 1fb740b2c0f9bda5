-- The copies of a packet that come at a tick.
use Rattle.std.proofs.Common.{◌≡◌, ℕ, ◌+◌, ◌<◌, Bool, true, false, cond, List, [], ◌∷◌, ◌++◌, length, get_or, take, map, ◌==◌, refl, sym, ◌∙◌, ap}
use Rattle.std.specs.List.{filter}
use Rattle.std.proofs.lemmas.List.{take_more}
use Rattle.sd_segment.specs.Flight.{copies}

copies-append : (id sent tick : ℕ) (xs ys : List ℕ) → copies id sent tick (xs ++ ys) ≡ copies id sent tick xs ++ copies id sent tick ys
copies-append id sent tick [] ys = refl
copies-append id sent tick (d ∷ ds) ys = of (sent + d == tick) (copies-append id sent tick ds ys)
  where
    of : (b : Bool) → copies id sent tick (ds ++ ys) ≡ copies id sent tick ds ++ copies id sent tick ys
        → map (λ e. id) (cond b (d ∷ filter (λ e. sent + e == tick) (ds ++ ys)) (filter (λ e. sent + e == tick) (ds ++ ys)))
        ≡ map (λ e. id) (cond b (d ∷ filter (λ e. sent + e == tick) ds) (filter (λ e. sent + e == tick) ds)) ++ copies id sent tick ys
    of true so = ap (λ l. id ∷ l) so
    of false so = so

-- one delay more
pub copies_more : (id sent tick : ℕ) (delays : List ℕ) (i d : ℕ) → i < length delays → d ≡ get_or delays i d
    → copies id sent tick (take (i + 1) delays) ≡ copies id sent tick (take i delays) ++ copies id sent tick (d ∷ [])
copies_more id sent tick delays i d lt is =
    ap (λ l. copies id sent tick l) (take_more delays i d lt ∙ ap (λ x. take i delays ++ x ∷ []) (sym is)) ∙ copies-append id sent tick (take i delays) (d ∷ [])
