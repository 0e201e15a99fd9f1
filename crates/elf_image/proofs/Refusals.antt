-- The first fault of a file, from what is tested one after the other.
use Rattle.std.proofs.Common.{◌≡◌, ℕ, true, false, List, drop, refl, Option, Some, if◌then◌else◌}
use Rattle.std.specs.List.{list_any}
use Rattle.elf_image.specs.declared.headers.ProgramHeader.{ProgramHeader}
use Rattle.elf_image.specs.declared.refusal.ImageFault.{ImageFault}
use Rattle.elf_image.specs.declared.refusal.ImageFault.TheVariants.{Headers}
use Rattle.elf_image.specs.declared.refusal.ImageRefusal.TheVariants.{Bad}
use Rattle.elf_image.specs.Header.{loads}
use Rattle.elf_image.specs.Image.{first_of, table_refusals, has_wrong_table, has_wrong_headers, has_wrong_size}

-- of what follows the file header a wrong table is the first
pub wrong_table : (bytes : List ℕ) → has_wrong_table bytes ≡ true → first_of table_refusals bytes ≡ Some Headers
unfolding first_of table_refusals has_wrong_headers
wrong_table bytes wrong = rw wrong

-- where the table is right, the sizes of the loaded headers come first, then the types
pub right_table : (bytes : List ℕ) (loaded : List ProgramHeader) → has_wrong_table bytes ≡ false → loaded ≡ loads bytes →
    first_of table_refusals bytes ≡ (if list_any (has_wrong_size bytes) loaded then Some Headers else first_of (drop 1 table_refusals) bytes)
unfolding first_of table_refusals has_wrong_headers
right_table bytes loaded right same = rw (right, same) refl

-- a refusal names one fault
pub same_fault : (first fault : ImageFault) (o : Option ImageFault) → Bad first ≡ Bad fault → o ≡ Some first → o ≡ Some fault
same_fault first fault o same is = cc
