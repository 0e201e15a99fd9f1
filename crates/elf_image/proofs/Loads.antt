-- What is tested of segments without their bytes is what is tested of the segments.
use Rattle.std.proofs.Common.{◌≡◌, ◌+◌, ◌%◌, ◌^◌, ◌<◌, ◌&&◌, ◌||◌, ◌==◌, not, ℕ, Bool, List, [], ◌∷◌, length, map, drop, get_or, suc, nat_lt, refl, sym, ap, ◌∙◌, add-one, Some, None, if◌then◌else◌}
use Rattle.std.specs.List.{list_any}
use Rattle.std.proofs.Math.Seq.{drop-cons}
use Rattle.std.proofs.lemmas.List.Folds.{fold-map}
use Rattle.elf_image.specs.declared.program.Segment.{Segment}
use Rattle.elf_image.specs.declared.headers.ProgramHeader.{ProgramHeader}
use Rattle.elf_image.specs.declared.refusal.ImageFault.TheVariants.{Dynamic, Interp, Tls}
use Rattle.elf_image.specs.Header.{headers, loads, e_entry}
use Rattle.elf_image.specs.Image.{program, segment_of, frame, segment_end, share_byte, holds, grants_write, grants_execute, reaches_too_far, overlaps, has_write_exec, has_wrong_entry, has_kind, first_of, table_refusals, program_refusals}

any_map : (p : Segment → Bool) (f : ProgramHeader → Segment) (hs : List ProgramHeader) → list_any p (map f hs) ≡ list_any (λ h. p (f h)) hs
any_map p f [] = refl
any_map p f (h ∷ hs) = ap (λ b. p (f h) || b) (any_map p f hs)

-- a test that doesn't ask for the bytes says the same of both
pub any_same : (p : Segment → Bool) (bytes : List ℕ) (hs : List ProgramHeader) → ((h : ProgramHeader) → p (frame h) ≡ p (segment_of bytes h))
    → list_any p (map frame hs) ≡ list_any p (map (segment_of bytes) hs)
any_same p bytes [] same = refl
any_same p bytes (h ∷ hs) same = rw (same h, any_same p bytes hs same) refl

reaches_is : (bytes : List ℕ) (hs : List ProgramHeader) → reaches_too_far (map frame hs) ≡ reaches_too_far (map (segment_of bytes) hs)
unfolding reaches_too_far
reaches_is bytes hs =
    let size = fold-map (λ (a : ℕ) (s : Segment). a + s.memsz) frame 0 hs ∙ sym (fold-map (λ (a : ℕ) (s : Segment). a + s.memsz) (segment_of bytes) 0 hs) in
    rw (any_same (λ s. nat_lt (2 ^ 32) (segment_end s)) bytes hs (λ h. refl), size) refl

overlaps_is : (bytes : List ℕ) (hs : List ProgramHeader) → overlaps (map frame hs) ≡ overlaps (map (segment_of bytes) hs)
overlaps_is bytes [] = refl
overlaps_is bytes (h ∷ hs) =
    rw (any_map (share_byte (frame h)) frame hs, any_map (share_byte (segment_of bytes h)) (segment_of bytes) hs, overlaps_is bytes hs) refl

write_exec_is : (bytes : List ℕ) (hs : List ProgramHeader) → has_write_exec (map frame hs) ≡ has_write_exec (map (segment_of bytes) hs)
unfolding has_write_exec
write_exec_is bytes hs = any_same (λ s. grants_write s && grants_execute s) bytes hs (λ h. refl)

entry_is : (bytes : List ℕ) (entry : ℕ) (hs : List ProgramHeader) →
    has_wrong_entry (record { entry = entry; segments = map frame hs }) ≡ has_wrong_entry (record { entry = entry; segments = map (segment_of bytes) hs })
unfolding has_wrong_entry
entry_is bytes entry hs = ap (λ b. not (entry % 4 == 0 && b)) (any_same (λ s. grants_execute s && holds s entry) bytes hs (λ h. refl))

frames_fault : (bytes : List ℕ) (entry : ℕ) (hs : List ProgramHeader) →
    first_of program_refusals (record { entry = entry; segments = map frame hs }) ≡ first_of program_refusals (record { entry = entry; segments = map (segment_of bytes) hs })
unfolding first_of program_refusals
frames_fault bytes entry hs = rw (reaches_is bytes hs, overlaps_is bytes hs, write_exec_is bytes hs, entry_is bytes entry hs) refl

-- so the first fault of the program is known before its bytes are read
pub known_fault : (bytes : List ℕ) (entry : ℕ) (frames : List Segment) (loaded : List ProgramHeader) → entry ≡ e_entry bytes → frames ≡ map frame loaded → loaded ≡ loads bytes →
    first_of program_refusals (record { entry = entry; segments = frames }) ≡ first_of program_refusals (program bytes)
known_fault bytes entry frames loaded at made same = rw (made, at, same) (frames_fault bytes (e_entry bytes) (loads bytes))

-- two segments share a byte where the first of the rest and a later one do, or two later ones
pub overlaps_step : (segments later : List Segment) (i : ℕ) (t : Segment) (some : Bool) → i < length segments → t ≡ get_or segments i t →
    later ≡ drop (i + 1) segments → some ≡ list_any (share_byte t) later → overlaps (drop i segments) ≡ (some || overlaps (drop (i + 1) segments))
overlaps_step segments later i t some inside is rest found =
    let found_rest : some ≡ list_any (share_byte t) (drop (suc i) segments) = rw (← add-one, ← rest) found in
    rw (add-one, drop-cons segments i t, ← is, found_rest) refl

-- the first fault of the headers' types, where the headers are known
pub kinds_are : (bytes : List ℕ) (hs : List ProgramHeader) → headers bytes ≡ hs →
    first_of (drop 1 table_refusals) bytes
    ≡ (if list_any (λ h. h.kind == 2) hs then Some Dynamic else if list_any (λ h. h.kind == 3) hs then Some Interp else if list_any (λ h. h.kind == 7) hs then Some Tls else None)
unfolding first_of table_refusals has_kind
kinds_are bytes hs same =
    ap (λ (xs : List ProgramHeader). if list_any (λ h. h.kind == 2) xs then Some Dynamic else if list_any (λ h. h.kind == 3) xs then Some Interp else if list_any (λ h. h.kind == 7) xs then Some Tls else None) same
