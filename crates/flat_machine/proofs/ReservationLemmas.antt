-- A thread that writes keeps its own reservation.
use Rattle.std.proofs.Common.{◌≡◌, ℕ, List, [], ◌∷◌, map, zero, suc, refl, ap}
use Rattle.std.specs.Prelude.{Some, slice_get, slice_set}
use Rattle.std.specs.Option.{option_map}
use Rattle.rv_hart.specs.declared.reservations.Span.{Span}
use Rattle.flat_machine.specs.declared.threads.Thread.{Thread}
use Rattle.flat_machine.specs.Reservation.{without_reservation, others_end}

get-map : (f : Thread → Thread) (ts : List Thread) (k : ℕ) → slice_get (map f ts) k ≡ option_map f (slice_get ts k)
get-map f [] k = refl
get-map f (t ∷ ts) zero = refl
get-map f (t ∷ ts) (suc k) = get-map f ts k

pub kept_own : (written : Span) (ts : List Thread) (number : ℕ) (own ended : Thread) → slice_get ts number ≡ Some own → slice_get (map (without_reservation written) ts) number ≡ Some ended
    → slice_set (map (without_reservation written) ts) number (record ended { reservation = own.reservation }) ≡ others_end (Some written) ts number
kept_own written ts number own ended is after =
    let lost : ended ≡ without_reservation written own = cc (get-map (without_reservation written) ts number, ap (option_map (without_reservation written)) is) in
    rw (is, lost) refl
