-- What the outside tells of the bytes that it holds or took, this simulator's own: `None` tells nothing.
use Rattle.std.specs.Prelude.{◌≡◌, ◌++◌, ℕ, false, if◌then◌else◌, List, Option, Some, None, bytes_eq}

-- what files hold, told of every name or of none: the bytes of a name, or that the name isn't there
abbrev pub Contents : Type 0
Contents = Option (List ℕ → Option (List ℕ))

-- where contents are told, the name is there and holds these bytes
abbrev pub Holds : Contents → List ℕ → List ℕ → Type 0
Holds None name bytes = Unit {0}
Holds (Some held) name bytes = held name ≡ Some bytes

-- where contents are told, the name is there and holds bytes that begin with these
abbrev pub HoldsFront : Contents → List ℕ → List ℕ → Type 0
HoldsFront None name front = Unit {0}
HoldsFront (Some held) name front = (rest : List ℕ) × (held name ≡ Some (front ++ rest))

-- contents in which a name holds these bytes, and each other name what it held
abbrev pub with_file : (List ℕ → Option (List ℕ)) → List ℕ → List ℕ → List ℕ → Option (List ℕ)
with_file held name bytes other = if bytes_eq other name then Some bytes else held other

-- where contents are told, the name now holds these bytes, and each other name what it held
abbrev pub Wrote : Contents → Contents → List ℕ → List ℕ → Type 0
Wrote None after name bytes = after ≡ None
Wrote (Some held) after name bytes = after ≡ Some (with_file held name bytes)

-- where contents are told, each name but this one holds what it held
abbrev pub HoldsAllBut : Contents → Contents → List ℕ → Type 0
HoldsAllBut None after name = after ≡ None
HoldsAllBut (Some held) after name =
    (now : List ℕ → Option (List ℕ)) × (after ≡ Some now) × ((other : List ℕ) → bytes_eq other name ≡ false → now other ≡ held other)

-- where the bytes taken are told, these were added at their end
abbrev pub Took : Option (List ℕ) → Option (List ℕ) → List ℕ → Type 0
Took None now piece = Unit {0}
Took (Some taken) now piece = now ≡ Some (taken ++ piece)
