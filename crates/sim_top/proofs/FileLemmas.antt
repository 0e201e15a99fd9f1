-- What the files that a request names say, and those that are too long.
use Rattle.std.proofs.Common.{◌≡◌, ℕ, ◌<◌, List, ◌++◌, length, true, false, refl, sym, ap, ◌∙◌, arith, length-append, inl, inr}
use Rattle.std.specs.Prelude.{Bool, if◌then◌else◌, Option, Some, None, Result, Ok, Err, nat_lt}
use Rattle.std.proofs.lemmas.Bool.Decides.{nat_tests}
use Rattle.sim_outside.specs.declared.reading.FileAnswer.{FileAnswer}
use Rattle.sim_outside.specs.declared.reading.FileAnswer.TheVariants.{TooLong as AnswerTooLong}
use Rattle.sim_outside.specs.Files.{ReadAll}
use Rattle.sim_outside.specs.Told.{Contents, Holds, HoldsFront}
use Rattle.sim_base.specs.declared.settings.Field.TheVariants.{Length}
use Rattle.elf_image.specs.Image.{image_of, first_of, header_refusals, is_too_long}
use Rattle.elf_image.specs.declared.refusal.ImageFault.TheVariants.{TooLong as ImageTooLong}
use Rattle.journal_file.specs.declared.refusal.JournalRefusal.TheVariants.{TooLong as FileTooLong, NoMemory as FileNoMemory}
use Rattle.journal_file.specs.Reading.{reading, told, fault_place}
use Rattle.sim_config.specs.SettingsFile.{settings}
use Rattle.sim_top.specs.declared.outcomes.Halt.{Halt}
use Rattle.sim_top.specs.declared.outcomes.Halt.TheVariants.{Refused, NoMemory}
use Rattle.sim_top.specs.declared.outcomes.JournalFault.TheVariants.{TooLong}
use Rattle.sim_top.specs.declared.outcomes.Outcome.{Outcome}
use Rattle.sim_top.specs.declared.outcomes.Outcome.TheVariants.{BadConfig, BadImage, BadJournal}
use Rattle.sim_top.specs.Asked.{settings_said, image_said, journal_said, journal_refusal}
use Rattle.sim_top.specs.Stage.{Reads, in_file, refused}
use Rattle.sim_top.specs.Inner.{ReadsFile, Tells}

-- files that are longer than what is read of them are refused

pub long_settings : (file : List ℕ) → 65536 < length file → settings_said file ≡ Err (BadConfig Length)
unfolding settings
long_settings file long = let t : nat_lt 65536 (length file) ≡ true = grind (arith, nat_tests) in rw t refl

long_image_of : (file : List ℕ) → 16777216 < length file → image_of file ≡ Err ImageTooLong
unfolding first_of header_refusals
long_image_of file long = let t : is_too_long file ≡ true = grind (arith, nat_tests) in rw t refl

pub long_image : (file : List ℕ) → 16777216 < length file → image_said file ≡ Err (BadImage ImageTooLong)
long_image file long = ap (refused BadImage) (long_image_of file long)

long_reading : (file : List ℕ) → 300000000 < length file → reading file ≡ Err FileTooLong
long_reading file long = let t : nat_lt 300000000 (length file) ≡ true = grind (arith, nat_tests) in rw t refl

pub long_journal : (file : List ℕ) → 300000000 < length file → journal_said file ≡ Err (BadJournal TooLong)
long_journal file long = ap (refused journal_refusal) (long_reading file long)

-- a journal's file is refused for its length or a byte

told_place : (file : List ℕ) (place : Option ℕ) → told file place ≡ Err FileNoMemory → ⊥
told_place file (Some at) e = cc (e)
told_place file None e = cc (e)

read_by : (file : List ℕ) (long : Bool) → (if long then Err FileTooLong else told file (fault_place file)) ≡ Err FileNoMemory → ⊥
read_by file true e = cc (e)
read_by file false e = told_place file (fault_place file) e

pub always_read : (file : List ℕ) → reading file ≡ Err FileNoMemory → ⊥
always_read file e = read_by file (nat_lt 300000000 (length file)) e

-- a file of which a reading found more than the limit is such a file
pub long_file : (contents : Contents) (name front : List ℕ) (limit : ℕ) → limit < length front → HoldsFront contents name front
    → (file : List ℕ) × Holds contents name file × (limit < length file)
long_file None name front limit long is = (front, tt, long)
long_file (Some held) name front limit long (rest, is) = (front ++ rest, is, omega (arith, length-append front rest))

-- what a reading says that answers so
pub read_too_long : (answer : Result (Unit {0}) FileAnswer) (contents : Contents) (name : List ℕ) (limit : ℕ) (bytes : List ℕ) (before now : List ℕ → ℕ)
    (e : FileAnswer) → answer ≡ Err e → e ≡ AnswerTooLong → ReadAll answer contents name limit bytes before now
    → (limit < length bytes) × HoldsFront contents name bytes × (now ≡ before)
read_too_long answer contents name limit bytes before now e was is read = rw (was, is) at read

-- a file that isn't read, or that is too long, isn't taken
pub read_halt : {A : Type 0} (r : Reads) (name : List ℕ) (says : List ℕ → Result A Outcome) (limit : ℕ) (too_long : Outcome)
    → ((file : List ℕ) → limit < length file → says file ≡ Err too_long) → (halt : Halt)
    → ReadsFile r name limit too_long (Err halt) → Tells (in_file name says) r (Err halt)
read_halt r name says limit too_long long (Refused outcome) (inl (is, rises)) = inl (rises, ap (λ o. Err o) is)
read_halt r name says limit too_long long (Refused outcome) (inr (is, same, file, told, over)) = inr (same, (file, told, long file over ∙ ap (λ o. Err o) (sym is)))
read_halt r name says limit too_long long NoMemory nothing = tt
