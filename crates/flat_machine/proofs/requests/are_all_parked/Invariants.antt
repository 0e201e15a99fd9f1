use Rattle.std.proofs.Common.{◌≡◌, drop, map}
use Rattle.std.specs.List.{list_all}
use Rattle.serving.specs.ControlData.{live_from}
use Rattle.flat_machine.specs.Serving.{fate_of}
use Rattle.flat_machine.specs.Inner.{is_parked_by, are_all_parked_by}
use Rattle.flat_machine.proofs.requests.are_all_parked.Given as goal

-- the live ones of those passed are parked
abbrev pub invariant-loop-index : goal.invariant-loop-index
invariant-loop-index l =
    list_all (is_parked_by (map fate_of l.threads) l.waiters) (live_from l.index (map fate_of (drop l.index l.threads)))
    ≡ are_all_parked_by (map fate_of l.fn.threads) l.fn.waiters
