-- What is kept of threads: each has a phase, which determines all that both machines have of it. This simulator's own.
use Rattle.std.specs.Prelude.{◌≡◌, ◌≢◌, ℕ, ◌≤◌, ◌<◌, Bool, true, false, List, [], ◌∷◌, Option, Some, None, ◌==◌, if◌then◌else◌}
use Rattle.std.specs.Prelude.{length, slice_index}
use Rattle.sim_base.specs.declared.ends.End.{End}
use Rattle.sim_base.specs.Numbering.{local_node, host_of}
use Rattle.rv_exec.specs.Access.{Asked}
use Rattle.rv_hart.specs.declared.reservations.Span.{Span}
use Rattle.rv_hart.specs.declared.steps.Step.TheVariants.{Access}
use Rattle.rv_hart.specs.Step.{next_step}
use Rattle.elf_image.specs.Layout.{Setup}
use Rattle.wire_msg.specs.declared.calls.Call.TheVariants.{FutexWait}
use Rattle.wire_msg.specs.declared.messages.Msg.{Msg}
use Rattle.flat_machine.specs.State.{State as Flat}
use Rattle.flat_machine.specs.Serving.{control_of}
use Rattle.control_server.specs.Control.{Control, is_placed}
use Rattle.event_journal.specs.State.{State}
use Rattle.node_machine.specs.declared.nodes.Node.{Node}
use Rattle.node_machine.specs.declared.nodes.Node.TheVariants.{Local}
use Rattle.agreement_laws.specs.Phases.{Hart, unheard, Going, misses, stops, Ask, plainly, by_write, Phase, sent, given, on, calling, asking, checking, waits, lost, told, traps, trapping, trapped, leaving, passing, exiting, vanished, tile_of}
use Rattle.agreement_laws.specs.Sides.{side, side_of}
use Rattle.agreement_laws.specs.Spots.{spot, spot_of}

-- the tile that the control server answers
abbrev pub KnowsTile : Phase → ℕ → Type 0
KnowsTile (asking h ask time) caller = caller ≡ h.tile
KnowsTile (checking h addr value) caller = caller ≡ h.tile
KnowsTile (waits h key) caller = caller ≡ h.tile
KnowsTile _ caller = Unit {0}

-- numbers in range; a call that asks is one of a run, and a write that asks has all its bytes; what is lost was lost after
-- the end
abbrev pub IsAskable : Ask → Type 0
IsAskable (plainly call) = is_placed call ≡ true
IsAskable (by_write write) = write.len ≤ length write.got

-- an access that waits for its line is what the next instruction asks for, whatever is reserved by then
abbrev pub Pends : Setup → List ℕ → ℕ → Asked → Type 0
Pends w regs pc access = (reserved : Option Span) (thread : ℕ) → next_step w regs pc reserved thread ≡ Access access

abbrev pub Awaits : Setup → Hart → Going → Type 0
Awaits w h (misses access) = Pends w h.regs h.pc access
Awaits w h _ = Unit {0}

abbrev pub Late : Going → Option End → Type 0
Late (stops work unheard) ended = ended ≢ None
Late _ ended = Unit {0}

abbrev pub Fit : Setup → Option End → Phase → Type 0
Fit w ended (sent host entry arg time limit) = host < w.config.hosts
Fit w ended (given tile entry arg time limit) = tile < w.config.tiles
Fit w ended (on h going) = (h.tile < w.config.tiles) × Late going ended × Awaits w h going
Fit w ended (calling h ask time) = (h.tile < w.config.tiles) × IsAskable ask
Fit w ended (asking h ask time) = (h.tile < w.config.tiles) × IsAskable ask
Fit w ended (checking h addr value) = (h.tile < w.config.tiles) × (is_placed (FutexWait addr value) ≡ true)
Fit w ended (waits h key) = h.tile < w.config.tiles
Fit w ended (lost h ask) = (h.tile < w.config.tiles) × (IsAskable ask × (ended ≢ None))
Fit w ended (told h value time limit) = h.tile < w.config.tiles
Fit w ended (traps h cause) = h.tile < w.config.tiles
Fit w ended (trapping h cause) = h.tile < w.config.tiles
Fit w ended (trapped h cause) = (h.tile < w.config.tiles) × (ended ≢ None)
Fit w ended (leaving tile code time) = tile < w.config.tiles
Fit w ended (passing host code time) = host < w.config.hosts
Fit w ended (exiting host code time) = host < w.config.hosts
Fit w ended (vanished code) = ended ≢ None
Fit w ended _ = Unit {0}

abbrev pub idle_in : Node → List ℕ
idle_in (Local l) = l.idle
idle_in _ = []

abbrev pub idle_at : Setup → State Node Msg → ℕ → List ℕ
idle_at w s host = idle_in (s.node (local_node w.config host))

abbrev pub has : ℕ → List ℕ → Bool
has x [] = false
has x (y ∷ ys) = if y == x then true else has x ys

abbrev pub Distinct : List ℕ → Type 0
Distinct [] = Unit {0}
Distinct (x ∷ xs) = (has x xs ≡ false) × Distinct xs

abbrev pub IsOfHost : Setup → ℕ → ℕ → Type 0
IsOfHost w host tile = (host_of w.config tile ≡ host) × (tile < w.config.tiles)

-- THE INVARIANT of threads
pub record Kept (w : Setup) (s : State Node Msg) (c : Control) (f : Flat) : Type 0 where
  pub phase : ℕ → Phase
  pub who : ℕ → Option ℕ
  pub sides : (u host : ℕ) → side w s c f u host ≡ side_of w u host (phase u)
  pub spots : (tile : ℕ) → tile < w.config.tiles → spot w s tile ≡ spot_of phase (who tile)
  pub sits : (u tile : ℕ) → tile_of (phase u) ≡ Some tile → who tile ≡ Some u
  pub stands : (u tile : ℕ) → who tile ≡ Some u → tile_of (phase u) ≡ Some tile
  pub knows : (u : ℕ) → KnowsTile (phase u) (slice_index c.callers u)
  pub fit : (u : ℕ) → Fit w c.control.ended (phase u)
  pub idle_free : (host tile : ℕ) → has tile (idle_at w s host) ≡ true → IsOfHost w host tile × (who tile ≡ None)
  pub idle_once : (host : ℕ) → Distinct (idle_at w s host)
  pub control : c.control ≡ control_of f
