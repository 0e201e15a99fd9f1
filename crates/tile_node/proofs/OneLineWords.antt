-- What a home's word about a line does there, and all other messages.
use Rattle.std.proofs.Common.{◌≡◌, ◌⊎◌, ℕ, Bool, true, false, Some, None, refl, sym, ap, ◌∙◌, inl, inr, subst}
use Rattle.std.proofs.lemmas.Bool.{cases_Bool, cond-true, cond-false, eqb-true, false_from_ne_true}
use Rattle.std.proofs.lemmas.Option.{none-some, same_Some}
use Rattle.std.specs.Prelude.{Option, ◌==◌, ◌&&◌, if◌then◌else◌}
use Rattle.sim_base.specs.declared.lines.LineData.{LineData}
use Rattle.rv_exec.specs.declared.access.AccessOp.{AccessOp}
use Rattle.rv_exec.specs.declared.access.AccessOp.TheVariants.{Load}
use Rattle.rv_exec.specs.Access.{Asked}
use Rattle.wire_msg.specs.declared.messages.Msg.{Msg}
use Rattle.wire_msg.specs.declared.messages.Msg.TheVariants.{GetS, GetM, PutM, InvAck, FetchAck, DataS, DataM, Inv, Fetch, FetchInv}
use Rattle.wire_msg.specs.declared.lines.Want.{Want}
use Rattle.wire_msg.specs.declared.lines.Want.TheVariants.{Read, Write}
use Rattle.wire_msg.specs.Message.{Down, gives, drops, fetches, may_send, down_about}
use Rattle.tile_core.specs.declared.cores.Status.{Status}
use Rattle.tile_core.specs.declared.cores.Status.TheVariants.{Miss}
use Rattle.tile_core.specs.Core.{line_missed}
use Rattle.tile_cache.specs.declared.ways.Hold.{Hold}
use Rattle.tile_cache.specs.Cache.{victim_of}
use Rattle.tile_node.specs.Tile.{Tile, suits, access_want}
use Rattle.tile_node.specs.Deliver.{hold_suits}
use Rattle.tile_node.specs.OneLine.{wants, wants_by, want_for, data_after, Happening, nothing, came, evicted, invalidated, fetched, at_line, leaves_at, data_at, taken_at, takes, hold_given, heard}
use Rattle.tile_node.specs.OneLineLaws.{DownsHappen, OthersLeave}
use Rattle.tile_node.proofs.OneLineParts.{at_itself, elsewhere, test_turned}

-- what a word about a line is at a line
abbrev word_at : Tile → ℕ → Down → ℕ → Happening
word_at t line (gives want content) k = data_at t line (hold_given want) content t.core.status k
word_at t line drops k = at_line line k invalidated
word_at t line (fetches want) k = at_line line k (fetched want)

-- data is taken where it is waited for so
takes_op : (want : Want) (op : AccessOp) → takes want (Some (access_want op)) ≡ suits op (hold_given want)
takes_op want Load = refl
takes_op Write _ = refl
takes_op Read _ = refl

takes_is : (b : Bool) (want : Want) (access : Option Asked) → takes want (if b then Some (want_for access) else None) ≡ (b && hold_suits access (hold_given want))
takes_is false want access = refl
takes_is true want None = refl
takes_is true want (Some access) = takes_op want access.op

data_here : (t : Tile) (k : ℕ) (want : Want) (content : LineData) (status : Status)
    → data_at t k (hold_given want) content status k ≡ heard status (wants_by t.core.write k status) (gives want content)
data_here t k want content (Miss access) =
    ap (λ h. if line_missed t.core.write access == k && hold_suits access (hold_given want) then h else nothing) (at_itself k _ _)
    ∙ ap (λ b. if b then came (hold_given want) (data_after access content) else nothing) (sym (takes_is (line_missed t.core.write access == k) want access))
data_here t k want content _ = refl

word_here : (t : Tile) (k : ℕ) (word : Down) → word_at t k word k ≡ heard t.core.status (wants t k) word
word_here t k (gives want content) = data_here t k want content t.core.status
word_here t k drops = at_itself k _ _
word_here t k (fetches want) = at_itself k _ _

-- a message that says this of this line
said : (t : Tile) (line k : ℕ) (word says : Down) → (if line == k then Some word else None) ≡ Some says → word_at t line word k ≡ heard t.core.status (wants t k) says
said t line k word says e =
    elim (cases_Bool (line == k)) [
      | inl same ↦
          ap (λ n. word_at t n word k) (eqb-true line k same) ∙ word_here t k word
          ∙ ap (heard t.core.status (wants t k)) (same_Some word says (sym (cond-true (line == k) _ _ same) ∙ e))
      | inr ne ↦ absurd (none-some says (sym (cond-false (line == k) _ _ ne) ∙ e))
    ]

-- one that says nothing of lines
unsaid : (b : Bool) (says : Down) → (if b then None else None) ≡ Some says → ⊥
unsaid true says e = none-some says e
unsaid false says e = none-some says e

taken_word : (t : Tile) (msg : Msg) (k : ℕ) (says : Down) → down_about k msg ≡ Some says → taken_at t msg k ≡ heard t.core.status (wants t k) says
taken_word t (DataS line content delay) k says e = said t line k (gives Read content) says e
taken_word t (DataM line content delay) k says e = said t line k (gives Write content) says e
taken_word t (Inv line) k says e = said t line k drops says e
taken_word t (Fetch line) k says e = said t line k (fetches Read) says e
taken_word t (FetchInv line) k says e = said t line k (fetches Write) says e
taken_word t (GetS line) k says e = absurd (unsaid (line == k) says e)
taken_word t (GetM line) k says e = absurd (unsaid (line == k) says e)
taken_word t (PutM line content) k says e = absurd (unsaid (line == k) says e)
taken_word t (InvAck line) k says e = absurd (unsaid (line == k) says e)
taken_word t (FetchAck line content) k says e = absurd (unsaid (line == k) says e)
taken_word t _ k says e = absurd (none-some says e)

pub downs_happen : DownsHappen
downs_happen w t from msg k says may e = cond-true (may_send w.config from t.number msg) _ _ may ∙ taken_word t msg k says e

-- at other lines

abbrev Leaves : Happening → Type 0
Leaves h = (h ≡ nothing) ⊎ (h ≡ evicted)

leaves_if : (b : Bool) (h g : Happening) → Leaves h → Leaves g → Leaves (if b then h else g)
leaves_if true h g one other = one
leaves_if false h g one other = other

victim_leaves_at : (victim : Option (ℕ × Hold)) (k : ℕ) → Leaves (leaves_at victim k)
victim_leaves_at None k = inl refl
victim_leaves_at (Some (line, hold)) k = leaves_if (k == line) evicted nothing (inr refl) (inl refl)

data_elsewhere : (t : Tile) (line : ℕ) (hold : Hold) (content : LineData) (status : Status) (k : ℕ) → (k == line) ≡ false → Leaves (data_at t line hold content status k)
data_elsewhere t line hold content (Miss access) k ne =
    leaves_if (line_missed t.core.write access == line && hold_suits access hold) _ nothing
    (subst Leaves (sym (elsewhere k line (came hold (data_after access content)) (leaves_at (victim_of t.cache line) k) ne)) (victim_leaves_at (victim_of t.cache line) k))
    (inl refl)
data_elsewhere t line hold content _ k ne = inl refl

word_elsewhere : (t : Tile) (line k : ℕ) (word : Down) → (k == line) ≡ false → Leaves (word_at t line word k)
word_elsewhere t line k (gives want content) ne = data_elsewhere t line (hold_given want) content t.core.status k ne
word_elsewhere t line k drops ne = inl (elsewhere k line _ _ ne)
word_elsewhere t line k (fetches want) ne = inl (elsewhere k line _ _ ne)

not_said : (t : Tile) (line k : ℕ) (word : Down) → (if line == k then Some word else None) ≡ None → Leaves (word_at t line word k)
not_said t line k word e =
    word_elsewhere t line k word (test_turned line k (false_from_ne_true (line == k) (λ same. none-some word (sym e ∙ cond-true (line == k) _ _ same))))

taken_elsewhere : (t : Tile) (msg : Msg) (k : ℕ) → down_about k msg ≡ None → Leaves (taken_at t msg k)
taken_elsewhere t (DataS line content delay) k e = not_said t line k (gives Read content) e
taken_elsewhere t (DataM line content delay) k e = not_said t line k (gives Write content) e
taken_elsewhere t (Inv line) k e = not_said t line k drops e
taken_elsewhere t (Fetch line) k e = not_said t line k (fetches Read) e
taken_elsewhere t (FetchInv line) k e = not_said t line k (fetches Write) e
taken_elsewhere t _ k e = inl refl

pub others_leave : OthersLeave
others_leave w t from msg k e = leaves_if (may_send w.config from t.number msg) _ nothing (taken_elsewhere t msg k e) (inl refl)
