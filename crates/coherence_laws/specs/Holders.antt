-- Who holds a line, as it is read of the machine that the program keeps.
use Rattle.std.specs.Prelude.{ℕ, ◌≡◌, ◌<◌, ◌+◌, Bool, true, false, List, find, count_by, slice_get, min, Option, Some, None}
use Rattle.std.specs.List.{range_with_len}
use Rattle.sim_base.specs.Numbering.{node_count}
use Rattle.sim_base.specs.Settings.{IsChecked}
use Rattle.elf_image.specs.Layout.{Setup}
use Rattle.tile_cache.specs.declared.ways.Hold.{Hold}
use Rattle.tile_cache.specs.declared.ways.Hold.TheVariants.{S, M}
use Rattle.event_journal.specs.declared.events.Event.{Event}
use Rattle.event_journal.specs.Run.{IsRun}
use Rattle.node_machine.specs.Machine.{rules, start_state}
use Rattle.node_machine.specs.Core.{CoreData, Shows, IsCore, hold_at}
use Rattle.coherence_laws.specs.Laws.{reached}

-- whether a line is held to write, or to read alone
abbrev pub is_to_write : Option Hold → Bool
is_to_write (Some M) = true
is_to_write _ = false

abbrev pub is_to_read : Option Hold → Bool
is_to_read (Some S) = true
is_to_read _ = false

-- how a tile holds a line
abbrev pub hold_in : CoreData → ℕ → ℕ → Option Hold
hold_in core line tile = hold_at (slice_get core.nodes tile) line

-- how many tiles can be named by a number, which is a byte: all of a machine of checked settings, which has at most 64
abbrev pub named_tiles : CoreData → ℕ
named_tiles core = min core.tiles 256

-- of so many tiles, the least that has a line to write, and how many have it to read
abbrev pub writer_below : CoreData → ℕ → ℕ → Option ℕ
writer_below core line n = find (λ tile. is_to_write (hold_in core line tile)) (range_with_len 0 n)

abbrev pub readers_below : CoreData → ℕ → ℕ → ℕ
readers_below core line n = count_by (λ tile. is_to_read (hold_in core line tile)) (range_with_len 0 n)

-- the same with one more tile, as it holds the line
abbrev pub writer_with : Option ℕ → ℕ → Option Hold → Option ℕ
writer_with None tile (Some M) = Some tile
writer_with writer tile hold = writer

abbrev pub readers_with : ℕ → Option Hold → ℕ
readers_with readers (Some S) = readers + 1
readers_with readers hold = readers

-- a tile is the only one that holds a line: no other has it to write, and none has it to read
pub record HoldsAlone (core : CoreData) (line tile readers : ℕ) : Type 0 where
  pub writer : (other : ℕ) → other < core.tiles → is_to_write (hold_in core line other) ≡ true → other ≡ tile
  pub reader : readers ≡ 0

-- so it is with a line's writer, where a machine shows a state that a run reaches
abbrev pub WriterIsAlone : CoreData → ℕ → Option ℕ → ℕ → Type 0
WriterIsAlone core line writer readers =
    (w : Setup) (events : List Event) (tile : ℕ) → IsChecked w.config → IsCore w core → IsRun (rules w) (node_count w.config) (start_state w) events
    → Shows core (reached w events) → writer ≡ Some tile → HoldsAlone core line tile readers
