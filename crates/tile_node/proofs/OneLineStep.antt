-- How a tile's step shows at each line.
use Rattle.std.proofs.Common.{◌≡◌, ℕ, true, false, [], Some, None, refl, sym, ap, ◌∙◌}
use Rattle.std.specs.Prelude.{Option, slice_index, ◌==◌}
use Rattle.sim_base.specs.Numbering.{home_of}
use Rattle.rv_exec.specs.Access.{Asked}
use Rattle.elf_image.specs.Layout.{Setup}
use Rattle.wire_msg.specs.declared.lines.Want.TheVariants.{Write}
use Rattle.wire_msg.specs.declared.lines.Up.TheVariants.{Asks}
use Rattle.tile_core.specs.declared.plans.Plan.{Plan}
use Rattle.tile_core.specs.declared.plans.Plan.TheVariants.{Local, Access, ScFails, Send, Exit, Write, Trap}
use Rattle.tile_core.specs.Gathering.{is_gathered, with_byte}
use Rattle.tile_core.specs.Core.{line_at, line_missed, next_byte}
use Rattle.tile_core.specs.Plan.{plan_of}
use Rattle.tile_cache.specs.declared.ways.Way.{Way}
use Rattle.tile_cache.specs.Cache.{Sets, IsCache, way_of, touched}
use Rattle.tile_cache.specs.Copy.{held_as, copy_in, copy_of, with_data}
use Rattle.tile_cache.proofs.CopyLemmas.{touch_hides}
use Rattle.tile_node.specs.Tile.{Tile, Act, suits, place_in_line}
use Rattle.tile_node.specs.Step.{can_step, is_writing, waits_for_limit, looks_around, misses, reads_byte_by, writes, accesses_by, follows, works}
use Rattle.tile_node.specs.OneLine.{wants, want_for, told_about, data_after, nothing, hit, asked, at_line, needs, follows_at, writes_at, works_at}
use Rattle.tile_node.specs.OneLineLaws.{Shows, StepShows}
use Rattle.tile_node.proofs.OneLineParts.{at_itself, elsewhere, test_turned, shows_if, shows_if_at, shows_else, leaves_lines, told_here, told_there, waits_for_nothing, with_held, used, used_here, used_there}
use Rattle.tile_node.proofs.OneLineCaches.{IsCache-touched}

-- a line is asked for
misses_shows : (w : Setup) (t : Tile) (access : Option Asked) (k : ℕ) → can_step t ≡ true
    → Shows t k (misses w t (line_missed t.core.write access) (want_for access) access) (at_line (line_missed t.core.write access) k (asked (want_for access)))
misses_shows w t access k can =
    let line : ℕ = line_missed t.core.write access in
    shows_else t line k _ _ nothing (record { copy = refl; told = told_here (home_of w.config line) line (Asks (want_for access)); wants = at_itself line _ _ })
    (λ ne. leaves_lines t k _ refl (told_there (home_of w.config line) line k (Asks (want_for access)) ne) (elsewhere line k _ _ (test_turned k line ne) ∙ sym (waits_for_nothing t.core.write k t.core.status can)))

-- a copy after an access is done on it
hit_copy : (t : Tile) (access : Option Asked) (way : Way) → IsCache t.cache → way_of t.cache (line_missed t.core.write access) ≡ Some way
    → copy_of (used (touched t.cache (line_missed t.core.write access)) access way.content) (line_missed t.core.write access)
    ≡ with_data (data_after access) (copy_of t.cache (line_missed t.core.write access))
hit_copy t access way h e =
    let line : ℕ = line_missed t.core.write access in
    let c : Sets = touched t.cache line in
    let before : copy_of t.cache line ≡ held_as way.hold way.content = ap copy_in e in
    let after : copy_of (used c access way.content) line ≡ held_as way.hold (data_after access way.content) =
    used_here c t.core.write access line way.hold way.content (IsCache-touched t.cache line h).some_set refl (touch_hides t.cache line line h.some_set ∙ before)
    in
    after ∙ sym (ap (with_data (data_after access)) before ∙ with_held (data_after access) way.hold way.content)

hit_other : (t : Tile) (access : Option Asked) (way : Way) (k : ℕ) → IsCache t.cache → (k == line_missed t.core.write access) ≡ false
    → copy_of (used (touched t.cache (line_missed t.core.write access)) access way.content) k ≡ copy_of t.cache k
hit_other t access way k h ne =
    let line : ℕ = line_missed t.core.write access in
    used_there (touched t.cache line) t.core.write access line k way.content (IsCache-touched t.cache line h).some_set refl ne ∙ touch_hides t.cache line k h.some_set

hit_shows : (t : Tile) (access : Option Asked) (way : Way) (k : ℕ) (act : Act) → IsCache t.cache → way_of t.cache (line_missed t.core.write access) ≡ Some way
    → act.tile.cache ≡ used (touched t.cache (line_missed t.core.write access)) access way.content → act.mail ≡ [] → ((n : ℕ) → wants act.tile n ≡ wants t n)
    → Shows t k act (at_line (line_missed t.core.write access) k (hit (data_after access)))
hit_shows t access way k act h e cache told waits =
    let line : ℕ = line_missed t.core.write access in
    shows_else t line k act _ nothing (record { copy = ap (λ c. copy_of c line) cache ∙ hit_copy t access way h e; told = ap (told_about line) told; wants = waits line })
    (λ ne. leaves_lines t k act (ap (λ c. copy_of c k) cache ∙ hit_other t access way k h ne) (ap (told_about k) told) (waits k))

-- the next byte of a write
byte_shows : (w : Setup) (t : Tile) (found : Option Way) (k : ℕ) → IsCache t.cache → can_step t ≡ true → way_of t.cache (line_at (next_byte t.core.write)) ≡ found
    → Shows t k (reads_byte_by w t (next_byte t.core.write) found) (at_line (line_at (next_byte t.core.write)) k (needs None found))
byte_shows w t None k h can e = misses_shows w t None k can
byte_shows w t (Some way) k h can e = hit_shows t None way k (reads_byte_by w t (next_byte t.core.write) (Some way)) h e refl refl
    (λ n. waits_for_nothing (with_byte t.core.write (slice_index way.content.bytes (place_in_line (next_byte t.core.write)))) n t.core.status can ∙ sym (waits_for_nothing t.core.write n t.core.status can))

writes_shows : (w : Setup) (t : Tile) (k : ℕ) → IsCache t.cache → can_step t ≡ true → Shows t k (writes w t) (writes_at t k)
writes_shows w t k h can =
    shows_if (is_gathered t.core.write) t k _ _ _ _ (λ _. leaves_lines t k _ refl refl (sym (waits_for_nothing t.core.write k t.core.status can)))
    (λ _. byte_shows w t (way_of t.cache (line_at (next_byte t.core.write))) k h can refl)

-- a data access
access_shows : (w : Setup) (t : Tile) (access : Asked) (found : Option Way) (k : ℕ) → IsCache t.cache → can_step t ≡ true → way_of t.cache (line_at access.addr) ≡ found
    → Shows t k (accesses_by w t access found) (at_line (line_at access.addr) k (needs (Some access) found))
access_shows w t access None k h can e = misses_shows w t (Some access) k can
access_shows w t access (Some way) k h can e =
    shows_if_at (suits access.op way.hold) t (line_at access.addr) k _ _ _ _ (λ _. hit_shows t (Some access) way k _ h e refl refl (λ n. refl))
    (λ _. misses_shows w t (Some access) k can)

-- each plan
follows_shows : (w : Setup) (t : Tile) (plan : Plan) (k : ℕ) → IsCache t.cache → can_step t ≡ true → Shows t k (follows w t plan) (follows_at t plan k)
follows_shows w t (Local rd value pc cost answered) k h can = leaves_lines t k _ refl refl refl
follows_shows w t (Access access) k h can = access_shows w t access (way_of t.cache (line_at access.addr)) k h can refl
follows_shows w t (ScFails rd) k h can = leaves_lines t k _ refl refl refl
follows_shows w t (Send call) k h can = leaves_lines t k _ refl refl (sym (waits_for_nothing t.core.write k t.core.status can))
follows_shows w t (Exit code) k h can = leaves_lines t k _ refl refl (sym (waits_for_nothing t.core.write k t.core.status can))
follows_shows w t (Write addr len) k h can = leaves_lines t k _ refl refl (sym (waits_for_nothing t.core.write k t.core.status can))
follows_shows w t (Trap cause) k h can = leaves_lines t k _ refl refl (sym (waits_for_nothing t.core.write k t.core.status can))

works_shows : (w : Setup) (t : Tile) (k : ℕ) → IsCache t.cache → can_step t ≡ true → Shows t k (works w t) (works_at w t k)
works_shows w t k h can =
    shows_if (is_writing t.core.status) t k _ _ _ _ (λ _. writes_shows w t k h can) (λ _. follows_shows w t (plan_of w t.core) k h can)

pub step_shows : StepShows
step_shows w t k can h =
    shows_if (waits_for_limit w.config.policy t.core.clock t.core.limit) t k _ _ _ _
    (λ _. leaves_lines t k _ refl refl (sym (waits_for_nothing t.core.write k t.core.status can)))
    (λ _. shows_if (looks_around w.config.policy w.config.tiles t.core.clock t.core.next_check) t k _ _ _ _
    (λ _. leaves_lines t k _ refl refl (sym (waits_for_nothing t.core.write k t.core.status can)))
    (λ _. works_shows w t k h can))
