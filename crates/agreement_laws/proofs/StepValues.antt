-- What a step of a tile makes of the values of lines: only an access that hits changes one.
use Rattle.std.proofs.Common.{◌≡◌, ℕ, Bool, true, false, Option, Some, None, refl, ap, ◌∙◌}
use Rattle.std.proofs.lemmas.Bool.{cond-true, cond-false}
use Rattle.std.specs.Prelude.{◌==◌, if◌then◌else◌}
use Rattle.sim_base.specs.declared.lines.LineData.{LineData}
use Rattle.rv_exec.specs.Access.{Asked}
use Rattle.elf_image.specs.Layout.{Setup}
use Rattle.wire_msg.specs.declared.messages.Msg.{Msg}
use Rattle.wire_msg.specs.declared.lines.Want.{Want}
use Rattle.tile_cache.specs.declared.ways.Way.{Way}
use Rattle.tile_cache.specs.Cache.{way_of}
use Rattle.tile_core.specs.declared.cores.Status.{Status}
use Rattle.tile_core.specs.declared.plans.Plan.{Plan}
use Rattle.tile_core.specs.declared.plans.Plan.TheVariants.{Access}
use Rattle.tile_core.specs.Gathering.{is_gathered}
use Rattle.tile_core.specs.Core.{line_at, line_missed}
use Rattle.tile_core.specs.Plan.{plan_of}
use Rattle.tile_node.specs.Tile.{Tile as TileData, suits}
use Rattle.tile_node.specs.Step.{is_writing, waits_for_limit, looks_around}
use Rattle.tile_node.specs.Deliver.{hold_suits}
use Rattle.tile_node.specs.OneLine.{want_for, data_after, Happening, nothing, hit, asked, needs, needs_at, follows_at, writes_at, step_at}
use Rattle.event_journal.specs.declared.events.Event.TheVariants.{Step}
use Rattle.event_journal.specs.State.{State}
use Rattle.node_machine.specs.declared.nodes.Node.{Node}
use Rattle.node_machine.specs.declared.nodes.Node.TheVariants.{Tile}
use Rattle.coherence_laws.specs.Laws.{value_after, value_by, stepped_at}
use Rattle.coherence_laws.proofs.Events.{values_after}

pub record SameValue (h : Happening) : Type 0 where
  pub same : (status : Status) (v : LineData) → value_after status h v ≡ v

pub nothing_same : SameValue nothing
nothing_same = record { same = λ status v. refl }

pub if_same : (b : Bool) (h g : Happening) → SameValue h → SameValue g → SameValue (if b then h else g)
if_same true h g a c = a
if_same false h g a c = c

asked_same : (want : Want) → SameValue (asked want)
asked_same want = record { same = λ status v. refl }

byte_same : (o : Option Way) → SameValue (needs None o)
byte_same None = asked_same _
byte_same (Some way) = record { same = λ status v. refl }

pub writes_same : (t : TileData) (k : ℕ) → SameValue (writes_at t k)
writes_same t k =
    if_same (is_gathered t.core.write) nothing (needs_at t None k) nothing_same
    (if_same (k == line_missed t.core.write None) (needs None (way_of t.cache (line_missed t.core.write None))) nothing (byte_same (way_of t.cache (line_missed t.core.write None))) nothing_same)

-- an access that misses
missed_by : (access : Asked) (o : Option Way) → ((way : Way) → o ≡ Some way → suits access.op way.hold ≡ false) → SameValue (needs (Some access) o)
missed_by access None miss = asked_same _
missed_by access (Some way) miss = record { same = λ status v. ap (λ h. value_after status h v) (cond-false (hold_suits (Some access) way.hold) (hit (data_after (Some access))) (asked (want_for (Some access))) (miss way refl)) }

pub missed_same : (t : TileData) (access : Asked) (k : ℕ) → ((way : Way) → way_of t.cache (line_at access.addr) ≡ Some way → suits access.op way.hold ≡ false) → SameValue (follows_at t (Access access) k)
missed_same t access k miss =
    if_same (k == line_missed t.core.write (Some access)) (needs (Some access) (way_of t.cache (line_missed t.core.write (Some access)))) nothing (missed_by access (way_of t.cache (line_at access.addr)) miss) nothing_same

-- the values after the step
pub stepped_same : (w : Setup) (s : State Node Msg) (x : ℕ) (t : TileData) (value : ℕ → LineData) (k : ℕ) (h : Happening) → s.node x ≡ Tile t → step_at w t k ≡ h → SameValue h → values_after w s (Step x) value k ≡ value k
stepped_same w s x t value k h is at same =
    ap (λ n. value_by n (stepped_at w n k) (value k)) is ∙ (ap (λ z. value_after t.core.status z (value k)) at ∙ same.same t.core.status (value k))

pub waits_at : (w : Setup) (t : TileData) (k : ℕ) → waits_for_limit w.config.policy t.core.clock t.core.limit ≡ true → step_at w t k ≡ nothing
waits_at w t k e = cond-true _ _ _ e

pub looks_at : (w : Setup) (t : TileData) (k : ℕ) → waits_for_limit w.config.policy t.core.clock t.core.limit ≡ false
    → looks_around w.config.policy w.config.tiles t.core.clock t.core.next_check ≡ true → step_at w t k ≡ nothing
looks_at w t k free e = cond-false _ _ _ free ∙ cond-true _ _ _ e

pub writing_at : (w : Setup) (t : TileData) (k : ℕ) → waits_for_limit w.config.policy t.core.clock t.core.limit ≡ false
    → looks_around w.config.policy w.config.tiles t.core.clock t.core.next_check ≡ false → is_writing t.core.status ≡ true → step_at w t k ≡ writes_at t k
writing_at w t k free alone e = cond-false _ _ _ free ∙ (cond-false _ _ _ alone ∙ cond-true _ _ _ e)

pub following_at : (w : Setup) (t : TileData) (k : ℕ) (plan : Plan) → waits_for_limit w.config.policy t.core.clock t.core.limit ≡ false
    → looks_around w.config.policy w.config.tiles t.core.clock t.core.next_check ≡ false → is_writing t.core.status ≡ false → plan_of w t.core ≡ plan → step_at w t k ≡ follows_at t plan k
following_at w t k plan free alone e is = cond-false _ _ _ free ∙ (cond-false _ _ _ alone ∙ (cond-false _ _ _ e ∙ ap (λ p. follows_at t p k) is))
