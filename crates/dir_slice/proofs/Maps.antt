-- The lines of a slice, as a finite map.
use Rattle.std.proofs.Common.{◌≡◌, ℕ, cond, List, [], ◌∷◌, refl, sym, ap, ◌∙◌}
use Rattle.std.specs.Prelude.{Some, None}
use Rattle.std.specs.BTreeMap as tree
use Rattle.std.specs.BTreeMap.{BTreeMap}
use Rattle.std.specs.FinMap as map
use Rattle.std.specs.Ordering.{nat_cmp, eq_by_cmp}
use Rattle.std.specs.Cmp.{nat_cmp_total, eq_by_cmp_equiv}
use Rattle.std.specs.Map.{lookup}
use Rattle.dir_slice.specs.Line.{Home}

find-lookup : (q : ℕ) (es : List (ℕ × Home)) → map.find nat_cmp q es ≡ lookup (tree.is_at (nat_cmp q)) es
find-lookup q [] = refl
find-lookup q (e ∷ es) = ap (cond (eq_by_cmp nat_cmp q e.0) (Some e.1)) (find-lookup q es)

-- the map that a tree makes has what the tree has
pub get-tree : (m : BTreeMap ℕ Home) (q : ℕ) → map.get (map.from_entries {R = nat_cmp} m.entries) q ≡ tree.get nat_cmp m q
get-tree m q = map.get-from_entries nat_cmp_total m.entries q ∙ find-lookup q m.entries

-- where a tree changed at a line, the map has the line's new home
pub insert-tree : (m n : BTreeMap ℕ Home) (line : ℕ) (h : Home) → tree.Updates nat_cmp m n line (Some h)
    → map.from_entries {R = nat_cmp} n.entries ≡ map.insert (map.from_entries m.entries) line h
insert-tree m n line h u =
    map.same_map nat_cmp_total map.nat_cmp-IsAntisymmetric _ _ (λ q.
    get-tree n q ∙ u.0 q ∙ ap (λ b. cond b (Some h) (tree.get nat_cmp m q)) ((eq_by_cmp_equiv nat_cmp_total).symm line q)
    ∙ ap (cond (eq_by_cmp nat_cmp q line) (Some h)) (sym (get-tree m q)) ∙ sym (map.get-insert nat_cmp_total (map.from_entries m.entries) line h q))

-- a home that the tree has, and the map after it was changed where it stands
pub known-tree : (homes : map.FinMap nat_cmp Home) (m : BTreeMap ℕ Home) (line : ℕ) (h : Home) → map.from_entries {R = nat_cmp} m.entries ≡ homes → Some h ≡ tree.get nat_cmp m line → Some h ≡ map.get homes line
known-tree homes m line h is found = rw (← is, get-tree) found

pub written-tree : (homes : map.FinMap nat_cmp Home) (m n : BTreeMap ℕ Home) (line : ℕ) (h w : Home) → map.from_entries {R = nat_cmp} m.entries ≡ homes → Some h ≡ tree.get nat_cmp m line
    → tree.WritesThrough nat_cmp (nat_cmp line) m w n → map.from_entries {R = nat_cmp} n.entries ≡ map.insert homes line w
written-tree homes m n line h w is found written = rw (← is) (insert-tree m n line w (written.3 (rw (← found) refl)))

-- where it was looked for in vain, the map has none, and is the same
pub unknown-tree : (homes : map.FinMap nat_cmp Home) (m : BTreeMap ℕ Home) (line : ℕ) → map.from_entries {R = nat_cmp} m.entries ≡ homes → None ≡ tree.get nat_cmp m line → map.get homes line ≡ None
unknown-tree homes m line is none = rw (← is, get-tree) (sym none)

pub same-tree : (homes : map.FinMap nat_cmp Home) (m n : BTreeMap ℕ Home) → map.from_entries {R = nat_cmp} m.entries ≡ homes → n ≡ m → map.from_entries {R = nat_cmp} n.entries ≡ homes
same-tree homes m n is same = rw same is
