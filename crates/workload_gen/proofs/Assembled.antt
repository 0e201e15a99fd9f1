-- A listing that is assembled as far as some statement: how it begins, what one more statement makes of it, and how it ends.
use Rattle.std.proofs.Common.{◌≡◌, ℕ, ◌+◌, ◌<◌, ◌≤◌, ◌^◌, List, [], ◌∷◌, ◌++◌, length, Some, refl, sym, ◌∙◌, subst, add-zero, append_assoc, length-append, get_or, drop}
use Rattle.std.specs.Int.{w32, to_le_bytes}
use Rattle.std.proofs.lemmas.List.{append-nil, drop_all, drop_more}
use Rattle.rv_decode.specs.declared.instr.Instr.{Instr}
use Rattle.rv_decode.specs.Table.{row}
use Rattle.workload_gen.specs.declared.assembly.Statement.{Statement}
use Rattle.workload_gen.specs.declared.assembly.Statement.TheVariants.{At, Plain, AddPlace, BranchTo, JumpTo}
use Rattle.workload_gen.specs.Assembly.{size_of, instruction_at, instructions_from, instructions}
use Rattle.workload_gen.specs.Workload.{IsCodeOf}
use Rattle.workload_gen.proofs.Coded.{coded_nothing, coded_more}

-- some instructions, and their code; with those of the statements that are left they are the listing's
pub record IsPart (listing rest : List Statement) (code : List ℕ) : Type 0 where
  pub made : List Instr
  pub coded : IsCodeOf made code
  pub whole : made ++ instructions_from listing (length code) rest ≡ instructions listing

pub part_none : (listing : List Statement) → IsPart listing listing []
part_none listing = record {
  made = [];
  coded = coded_nothing;
  whole = refl;
}

label_more : (listing rest : List Statement) (code : List ℕ) (statement : Statement) → [] ≡ instruction_at listing (length code) statement → IsPart listing (statement ∷ rest) code → IsPart listing rest code
label_more listing rest code (At label) e part = record {
  made = part.made;
  coded = part.coded;
  whole = rw add-zero at part.whole;
}
label_more listing rest code (Plain instr) e part = cc
label_more listing rest code (AddPlace rd label) e part = cc
label_more listing rest code (BranchTo op rs1 rs2 label) e part = cc
label_more listing rest code (JumpTo label) e part = cc

-- a statement that is no instruction leaves the code as it is
pub part_label : (listing : List Statement) (i : ℕ) (code : List ℕ) (d : Statement) → i < length listing → [] ≡ instruction_at listing (length code) (get_or listing i d) → IsPart listing (drop i listing) code → IsPart listing (drop (i + 1) listing) code
part_label listing i code d within e part =
    label_more listing (drop (i + 1) listing) code (get_or listing i d) e (rw (drop_more listing i d within) at part)

-- what is one instruction has four bytes
size_of_one : (listing : List Statement) (here : ℕ) (statement : Statement) (instr : Instr) → instr ∷ [] ≡ instruction_at listing here statement → size_of statement ≡ 4
size_of_one listing here (At label) instr e = cc
size_of_one listing here (Plain other) instr e = refl
size_of_one listing here (AddPlace rd label) instr e = refl
size_of_one listing here (BranchTo op rs1 rs2 label) instr e = refl
size_of_one listing here (JumpTo label) instr e = refl

word_more : (listing rest : List Statement) (code : List ℕ) (statement : Statement) (instr : Instr) (word : ℕ) → instr ∷ [] ≡ instruction_at listing (length code) statement → word < 2 ^ 32 → row word ≡ Some instr → IsPart listing (statement ∷ rest) code → IsPart listing rest (code ++ to_le_bytes w32 word)
word_more listing rest code statement instr word e low is_row part = record {
  made = part.made ++ instr ∷ [];
  coded = coded_more part.made code instr word part.coded low is_row;
  whole =
      let size = size_of_one listing (length code) statement instr e in
      let next = length-append code (to_le_bytes w32 word) in
      rw (append_assoc part.made (instr ∷ []) _, next) (rw (← e, size) at part.whole);
}

-- a statement that is an instruction adds its word
pub part_word : (listing : List Statement) (i : ℕ) (code : List ℕ) (d : Statement) (instr : Instr) (word : ℕ) → i < length listing → instr ∷ [] ≡ instruction_at listing (length code) (get_or listing i d) → word < 2 ^ 32 → row word ≡ Some instr → IsPart listing (drop i listing) code → IsPart listing (drop (i + 1) listing) (code ++ to_le_bytes w32 word)
part_word listing i code d instr word within e low is_row part =
    word_more listing (drop (i + 1) listing) code (get_or listing i d) instr word e low is_row (rw (drop_more listing i d within) at part)

-- at the end the code is the listing's
pub part_all : (listing : List Statement) (i : ℕ) (code : List ℕ) → length listing ≤ i → IsPart listing (drop i listing) code → IsCodeOf (instructions listing) code
part_all listing i code done part =
    let whole = rw (drop_all i listing done) at part.whole in
    subst (λ list. IsCodeOf list code) (sym (append-nil part.made) ∙ whole) part.coded
