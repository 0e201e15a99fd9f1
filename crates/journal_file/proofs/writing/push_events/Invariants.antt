-- The bytes so far, and those of the events that are left, are those of all.
use Rattle.std.proofs.Common.{◌≡◌, ◌++◌, length}
use Rattle.std.specs.List.{flat_map}
use Rattle.journal_file.specs.File.{event_bytes}
use Rattle.journal_file.proofs.writing.push_events.Given as goal

abbrev pub invariant-loop-event : goal.invariant-loop-event
invariant-loop-event l = l.file.items ++ flat_map event_bytes l.events ≡ l.fn.file.items ++ flat_map event_bytes l.fn.events

abbrev pub decreases-loop-event : goal.decreases-loop-event
decreases-loop-event l = length l.events
