-- What an access does at its step on a line that the cache has is what the step's rule says.
use Rattle.std.proofs.Common.{◌≡◌, ℕ, Bool, true, false, refl, sym, ap, ◌∙◌}
use Rattle.std.specs.Prelude.{Option, Some, None, slice_index, if◌then◌else◌}
use Rattle.std.specs.Option.{option_map}
use Rattle.std.proofs.lemmas.Option.{same_Some}
use Rattle.sim_base.specs.declared.actions.Action.TheVariants.{Exec}
use Rattle.sim_base.specs.LittleEndian.{loaded}
use Rattle.elf_image.specs.Layout.{Setup}
use Rattle.rv_exec.specs.Access.{Asked, finish_of, finish_by}
use Rattle.rv_exec.specs.declared.access.AccessOp.{AccessOp}
use Rattle.rv_exec.specs.declared.access.AccessOp.TheVariants.{Load, Store, Lr, Sc, Amo}
use Rattle.rv_exec.specs.declared.access.Done.{Done}
use Rattle.tile_core.specs.Core.{line_at}
use Rattle.tile_cache.specs.declared.ways.Hold.{Hold}
use Rattle.tile_cache.specs.declared.ways.Hold.TheVariants.{S, M}
use Rattle.tile_cache.specs.declared.ways.Way.{Way}
use Rattle.tile_cache.specs.Cache.{Sets, way_of, hold_of, number_of, is_m, touched, written}
use Rattle.tile_node.specs.Tile.{Tile, Act, quiet, suits, place_in_line, done_on, with_written}
use Rattle.tile_node.specs.Step.{accesses, accesses_by}
use Rattle.tile_node.specs.AtOnce.{StepsQuietly}
use Rattle.tile_node.specs.Inner.{past, after_hit}

-- the act of an access that is done at its step on a line of the cache
abbrev hit_act : Setup → Tile → Asked → Done → Act
hit_act w t access done =
    record (quiet (after_hit w.config (past (record t { cache = with_written (touched t.cache (line_at access.addr)) access done.write }) access done) access.op)) {
      action = Some (Exec t.core.thread);
    }

-- the line's hold is enough for an access
hit_by : (w : Setup) (t : Tile) (access : Asked) (way : Way) (enough : Bool) → suits access.op way.hold ≡ enough → enough ≡ true
    → accesses_by w t access (Some way) ≡ hit_act w t access (done_on access way.content)
hit_by w t access way true e h = rw e refl
hit_by w t access way false e h = cc

hit_on : (w : Setup) (t : Tile) (access : Asked) (way : Way) → way_of t.cache (line_at access.addr) ≡ Some way → suits access.op way.hold ≡ true
    → accesses w t access ≡ hit_act w t access (done_on access way.content)
hit_on w t access way there enough = ap (accesses_by w t access) there ∙ hit_by w t access way true enough refl

-- what such an act makes
hit_makes : (w : Setup) (t new : Tile) (access : Asked) (done : Done) (op : AccessOp) → accesses w t access ≡ hit_act w t access done
    → op ≡ access.op → new ≡ after_hit w.config (past (record t { cache = with_written (touched t.cache (line_at access.addr)) access done.write }) access done) op
    → StepsQuietly true t new (accesses w t access)
hit_makes w t new access done op is kind made = rw is (record { tile = rw kind at made; quiet = refl; commits = refl; stays = rw made refl })

-- a load: any hold is enough, and nothing is written
load_suits : (op : AccessOp) (hold : Hold) → op ≡ Load → suits op hold ≡ true
load_suits Load hold e = refl
load_suits Store hold e = cc
load_suits Lr hold e = cc
load_suits Sc hold e = cc
load_suits (Amo op) hold e = cc

load_writes : (op : AccessOp) (access : Asked) (old : ℕ) → op ≡ Load → (finish_by op access old).write ≡ None
load_writes Load access old e = refl
load_writes Store access old e = cc
load_writes Lr access old e = cc
load_writes Sc access old e = cc
load_writes (Amo op) access old e = cc

load_on : (w : Setup) (t : Tile) (access : Asked) (found : Option Way) (old : ℕ) → way_of t.cache (line_at access.addr) ≡ found → access.op ≡ Load
    → Some old ≡ option_map (λ way. loaded (slice_index way.content.bytes) (place_in_line access.addr) access.size) found
    → accesses w t access ≡ hit_act w t access (finish_of access old)
load_on w t access None old there kind gave = cc
load_on w t access (Some way) old there kind gave =
    hit_on w t access way there (load_suits access.op way.hold kind) ∙ ap (λ n. hit_act w t access (finish_of access n)) (sym (same_Some _ _ gave))

pub load_makes : (w : Setup) (v t : Tile) → v ≡ t → (new : Tile) (access : Asked) (op : AccessOp) (line addr place size old : ℕ) (cache : Sets) (done : Done) (gone : Tile)
    → access.op ≡ Load → op ≡ access.op → line ≡ line_at addr → addr ≡ access.addr → place ≡ place_in_line access.addr → size ≡ access.size
    → Some old ≡ number_of v.cache line place size → cache ≡ touched v.cache line → done ≡ finish_of access old → gone ≡ past (record v { cache = cache }) access done
    → new ≡ after_hit w.config gone op → StepsQuietly true t new (accesses w t access)
load_makes w v t is new access op line addr place size old cache done gone kind named_kind lies named here wide gave front finished went made =
    let act : accesses w v access ≡ hit_act w v access done = rw finished (load_on w v access (way_of v.cache (line_at access.addr)) old refl kind (rw (lies, named, here, wide) at gave)) in
    let none : done.write ≡ None = rw finished (load_writes access.op access old kind) in
    let at_front : cache ≡ with_written (touched v.cache (line_at access.addr)) access done.write = rw none (rw (lies, named) at front) in
    let past_it : gone ≡ past (record v { cache = with_written (touched v.cache (line_at access.addr)) access done.write }) access done = rw at_front at went in
    rw (← is) (hit_makes w v new access done op act named_kind (rw past_it at made))

-- an access that asks for its line to write it finds it in M
m_suits : (op : AccessOp) (hold : Hold) → hold ≡ M → suits op hold ≡ true
m_suits Load M e = refl
m_suits Store M e = refl
m_suits Lr M e = refl
m_suits Sc M e = refl
m_suits (Amo op) M e = refl
m_suits op S e = cc

-- a store does the same whatever its bytes hold
store_finish : (op : AccessOp) (access : Asked) (old other : ℕ) → op ≡ Store → finish_by op access old ≡ finish_by op access other
store_finish Store access old other e = refl
store_finish Load access old other e = cc
store_finish Lr access old other e = cc
store_finish Sc access old other e = cc
store_finish (Amo op) access old other e = cc

m_hold : (way : Way) → is_m (Some way.hold) ≡ true → way.hold ≡ M
m_hold way e = by_hold way.hold e where
  by_hold : (hold : Hold) → is_m (Some hold) ≡ true → hold ≡ M
  by_hold M e = refl
  by_hold S e = cc

store_on : (w : Setup) (t : Tile) (access : Asked) (found : Option Way) → way_of t.cache (line_at access.addr) ≡ found → access.op ≡ Store
    → is_m (option_map (λ way. way.hold) found) ≡ true → accesses w t access ≡ hit_act w t access (finish_of access 0)
store_on w t access None there kind held = cc
store_on w t access (Some way) there kind held =
    hit_on w t access way there (m_suits access.op way.hold (m_hold way held)) ∙ ap (hit_act w t access) (store_finish access.op access _ 0 kind)

pub store_makes : (w : Setup) (v t : Tile) → v ≡ t → (new : Tile) (access : Asked) (op : AccessOp) (line addr place size value : ℕ) (held : Bool) (cache : Sets) (done : Done)
    (gone : Tile) → access.op ≡ Store → op ≡ access.op → line ≡ line_at addr → addr ≡ access.addr → place ≡ place_in_line access.addr
    → size ≡ access.size → held ≡ is_m (hold_of v.cache line) → held ≡ true
    → cache ≡ (if is_m (hold_of v.cache line) then written (touched v.cache line) line place size value else v.cache) → done ≡ finish_of access 0 → done.write ≡ Some value
    → gone ≡ past (record v { cache = cache }) access done → new ≡ after_hit w.config gone op → StepsQuietly true t new (accesses w t access)
store_makes w v t is new access op line addr place size value held cache done gone kind named_kind lies named here wide tells has wrote finished writes went made =
    let in_m : is_m (hold_of v.cache line) ≡ true = sym tells ∙ has in
    let act : accesses w v access ≡ hit_act w v access done = rw finished (store_on w v access (way_of v.cache (line_at access.addr)) refl kind (rw (lies, named) at in_m)) in
    let stored : cache ≡ written (touched v.cache line) line place size value = rw in_m at wrote in
    let there : cache ≡ with_written (touched v.cache (line_at access.addr)) access done.write = rw writes (rw (lies, named, here, wide) at stored) in
    let past_it : gone ≡ past (record v { cache = with_written (touched v.cache (line_at access.addr)) access done.write }) access done = rw there at went in
    rw (← is) (hit_makes w v new access done op act named_kind (rw past_it at made))
