-- What names hold after files were written one after the other.
use Rattle.std.proofs.Common.{◌≡◌, ℕ, ◌+◌, ◌<◌, List, ◌++◌, length, take, refl, sym, ap, subst, ◌∙◌, arith, add-one}
use Rattle.std.specs.Prelude.{[], ◌∷◌, Option, Some, None, Result, Ok, Err, slice_get}
use Rattle.std.proofs.Math.ListN.{get_or}
use Rattle.std.proofs.Math.Seq.{take-suc}
use Rattle.std.proofs.lemmas.Option.{slice_get_within, get_or_from_slice_get}
use Rattle.sim_outside.specs.declared.writing.WriteAnswer.{WriteAnswer}
use Rattle.sim_outside.specs.declared.writing.WriteAnswer.TheVariants.{Failed, NoMemory}
use Rattle.sim_outside.specs.Files.{WriteAll}
use Rattle.sim_outside.specs.Fault.{Rose}
use Rattle.sim_outside.specs.Told.{Contents, Wrote, HoldsAllBut, with_file}
use Rattle.sim_top.specs.declared.outcomes.FileToWrite.{FileToWrite}
use Rattle.sim_top.specs.Answer.{Writes, writes, HasWritten, HasFailed, with_files, written}
use Rattle.sim_top.specs.Inner.{WritesAll}

-- one more file
with_one : (held : List ℕ → Option (List ℕ)) (files : List FileToWrite) (file : FileToWrite) → with_files held (files ++ file ∷ []) ≡ with_files (with_files held files) (file ∷ [])
with_one held [] file = refl
with_one held (first ∷ files) file = with_one (with_file held first.name first.bytes) files file

wrote_one : (held : Contents) (files : List FileToWrite) (file : FileToWrite) (now : Contents) → Wrote (written held files) now file.name file.bytes
    → now ≡ written held (files ++ file ∷ [])
wrote_one None files file now wrote = wrote
wrote_one (Some held) files file now wrote = wrote ∙ ap Some (sym (with_one held files file))

pub none_written : (held : Contents) → written held [] ≡ held
none_written None = refl
none_written (Some held) = refl

take_one : (list : List FileToWrite) (i : ℕ) (file : FileToWrite) → slice_get list i ≡ Some file → take (i + 1) list ≡ take i list ++ file ∷ []
take_one list i file here =
    let more : take (i + 1) list ≡ take i list ++ get_or list i file ∷ [] = rw (add-one) (take-suc list i file (slice_get_within list i file here)) in
    more ∙ ap (λ x. take i list ++ x ∷ []) (get_or_from_slice_get list i file file here)

module _ (held between now : Contents) (before middle after : List ℕ → ℕ) (list : List FileToWrite) (i : ℕ) (file : FileToWrite)
    (here : slice_get list i ≡ Some file) (first : HasWritten (writes held between before middle) (take i list)) where
  -- the next file was written
  pub one_more : Wrote between now file.name file.bytes → after ≡ middle → HasWritten (writes held now before after) (take (i + 1) list)
  one_more wrote same =
      let more : now ≡ written held (take i list ++ file ∷ []) = wrote_one held (take i list) file now (subst (λ c. Wrote c now file.name file.bytes) first.wrote wrote) in
      record { wrote = more ∙ ap (written held) (sym (take_one list i file here)); no_fault = same ∙ first.no_fault }

  -- or it wasn't
  pub not_one_more : (answer : WriteAnswer) → WriteAll (Err answer) between now file.name file.bytes middle after → WritesAll (Err answer) (writes held now before after) list
  not_one_more Failed failed = record {
    count = i;
    file = file;
    next = here;
    others = subst (λ c. HoldsAllBut c now file.name) first.wrote failed.0;
    rose = subst (λ b. Rose (b file.name) (after file.name)) first.no_fault failed.1;
  }
  not_one_more NoMemory kept =
      (i, slice_get_within list i file here, record { wrote = kept.0 ∙ first.wrote; no_fault = kept.1 ∙ first.no_fault })
