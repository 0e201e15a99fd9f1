-- The text of a machine is that of the state that it shows.
use Rattle.std.proofs.Common.{◌≡◌, ◌<◌, ℕ, ◌∙◌, map, zero-add, slice_get, arith}
use Rattle.std.specs.List.{range_with_len}
use Rattle.std.proofs.lemmas.List.FromFn.{fill_by_all, length-map-range_with_len, get_or-map-range_with_len}
use Rattle.node_machine.specs.Core.{counts_at}
use Rattle.node_machine.specs.Reading.{none_counted, counts_of_node}
use Rattle.node_machine.specs.Shown.{ShownIsRead, ReadsAsShown}
use Rattle.stats_report.specs.Report.{TextIsOfState}

-- two functions that agree on the first numbers make the same list of them
map-range-same : {A : Type 0} (f g : ℕ → A) (n : ℕ) (d : A) → ((k : ℕ) → k < n → f k ≡ g k) → map f (range_with_len 0 n) ≡ map g (range_with_len 0 n)
map-range-same f g n d same =
    fill_by_all g (map f (range_with_len 0 n)) n d (length-map-range_with_len f 0 n)
    (λ k below. get_or-map-range_with_len f 0 n k k d below (zero-add k) ∙ same k below)

pub text-of_state : ShownIsRead → TextIsOfState
text-of_state law w core s end is shows =
    let read : ReadsAsShown w core s = law w core s is shows in
    let counts : map (λ tile. counts_at (slice_get core.nodes tile)) (range_with_len 0 w.config.tiles) ≡ map (λ tile. counts_of_node (s.node tile)) (range_with_len 0 w.config.tiles) =
    map-range-same (λ tile. counts_at (slice_get core.nodes tile)) (λ tile. counts_of_node (s.node tile)) w.config.tiles none_counted (λ k below. read.counts k (omega arith)) in
    rw (read.output, read.count, is.tiles, counts)
