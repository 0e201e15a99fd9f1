-- How many threads are live once the fate of one has changed.
use Rattle.std.proofs.Common.{◌≡◌, ℕ, ◌+◌, true, false, cond, List, get_or, slice_get, slice_set, Option, Some, None, refl, arith}
use Rattle.std.specs.Option.{option_map, option_map_or}
use Rattle.std.proofs.lemmas.List.Sums.{sum_by-set}
use Rattle.std.proofs.lemmas.Option.{slice_get_within, get_or_from_slice_get}
use Rattle.serving.specs.declared.control_data.Fate.{Fate}
use Rattle.serving.specs.ControlData.{is_live, live_count}
use Rattle.thread_table.specs.Threads.{is_live_at}

-- one fate is replaced
live_count-set : (fates : List Fate) (i : ℕ) (fate old : Fate) → slice_get fates i ≡ Some old → live_count (slice_set fates i fate) + cond (is_live old) 1 0 ≡ live_count fates + cond (is_live fate) 1 0
live_count-set fates i fate old e =
    let g : get_or fates i old ≡ old = get_or_from_slice_get fates i old old e in
    rw g at (sum_by-set (λ x. cond (is_live x) 1 0) fates i fate old (slice_get_within fates i old e))

-- it is replaced by one that is as live
live_count_same_by : (fates : List Fate) (i : ℕ) (fate : Fate) (o : Option Fate) → slice_get fates i ≡ o → option_map is_live o ≡ Some (is_live fate) → live_count (slice_set fates i fate) ≡ live_count fates
live_count_same_by fates i fate None e h = cc
live_count_same_by fates i fate (Some old) e h =
    let same : is_live old ≡ is_live fate = cc in
    let s = rw same at (live_count-set fates i fate old e) in
    omega arith

pub live_count_same : (fates : List Fate) (i : ℕ) (fate : Fate) → option_map is_live (slice_get fates i) ≡ Some (is_live fate) → live_count (slice_set fates i fate) ≡ live_count fates
live_count_same fates i fate h = live_count_same_by fates i fate (slice_get fates i) refl h

-- a live thread exits
live_count_exited_by : (fates : List Fate) (i : ℕ) (fate : Fate) (o : Option Fate) → slice_get fates i ≡ o → option_map_or is_live o false ≡ true → is_live fate ≡ false → live_count (slice_set fates i fate) + 1 ≡ live_count fates
live_count_exited_by fates i fate None e h n = cc
live_count_exited_by fates i fate (Some old) e h n =
    let s = rw (h, n) at (live_count-set fates i fate old e) in
    omega arith

pub live_count_exited : (fates : List Fate) (i : ℕ) (fate : Fate) → is_live_at fates i ≡ true → is_live fate ≡ false → live_count (slice_set fates i fate) + 1 ≡ live_count fates
live_count_exited fates i fate h n = live_count_exited_by fates i fate (slice_get fates i) refl h n
