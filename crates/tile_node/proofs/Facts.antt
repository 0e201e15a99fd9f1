-- Facts about settings, accesses and messages that a tile's code needs.
use Rattle.std.proofs.Common.{◌≡◌, ℕ, ◌+◌, ◌%◌, ◌<◌, ◌≤◌, ◌==◌, true, false, Some, inl, inr, refl, arith}
use Rattle.std.specs.Prelude.{IsTrue}
use Rattle.std.proofs.lemmas.Bool.{cases_Bool, eqb-true}
use Rattle.std.proofs.lemmas.Bool.Decides.{nat_tests}
use Rattle.sim_base.specs.declared.settings.Config.{Config}
use Rattle.sim_base.specs.Settings.{IsChecked}
use Rattle.sim_base.specs.Numbering.{home_of}
use Rattle.sim_base.proofs.CheckedSettings.{in_range}
use Rattle.rv_exec.specs.declared.access.AccessOp.{AccessOp}
use Rattle.rv_exec.specs.declared.access.AccessOp.TheVariants.{Load, Store, Lr, Sc, Amo}
use Rattle.rv_exec.specs.Access.{Asked, IsAccess, finish_by, finish_of, is_size}
use Rattle.wire_msg.specs.declared.lines.Want.TheVariants.{Write}
use Rattle.wire_msg.specs.Message.{goes_home}
use Rattle.tile_node.specs.Tile.{access_want}

-- the ranges of a cache's sizes
pub some_set : (c : Config) → IsChecked c → 0 < c.sets
some_set c h = let r = in_range c h in omega (arith, r.some_set)

pub some_way : (c : Config) → IsChecked c → 0 < c.ways
some_way c h = let r = in_range c h in omega (arith, r.some_way)

pub ruleset cache_ranges = (some_set, some_way)

-- an access lies in one line
pub in_line : (addr size : ℕ) → IsTrue (is_size size) → addr % size ≡ 0 → addr % 64 + size ≤ 64
in_line addr size sized aligned = elim (cases_Bool (size == 1)) [
  | inl one ↦ let e : size ≡ 1 = eqb-true size 1 one in omega arith
  | inr no1 ↦ elim (cases_Bool (size == 2)) [
    | inl two ↦ let e : size ≡ 2 = eqb-true size 2 two in let a : addr % 2 ≡ 0 = rw e at aligned in omega arith
    | inr no2 ↦ elim (cases_Bool (size == 4)) [
      | inl four ↦ let e : size ≡ 4 = eqb-true size 4 four in let a : addr % 4 ≡ 0 = rw e at aligned in omega arith
      | inr no4 ↦ elim (cases_Bool (size == 8)) [
        | inl eight ↦ let e : size ≡ 8 = eqb-true size 8 eight in let a : addr % 8 ≡ 0 = rw e at aligned in omega arith
        | inr no8 ↦ let no : false ≡ true = rw (no1, no2, no4, no8) at sized in cc
      ]
    ]
  ]
]

few_bytes : (size : ℕ) → IsTrue (is_size size) → size ≤ 8
few_bytes size sized = grind (arith, nat_tests)

pub access_in_line : (access : Asked) → IsAccess access → access.addr % 64 + access.size ≤ 64
access_in_line access h = in_line access.addr access.size h.sized h.aligned

pub access_size : (access : Asked) → IsAccess access → access.size ≤ 8
access_size access h = few_bytes access.size h.sized

pub ruleset access_bounds = (access_in_line, access_size)

-- only an access that asks for a line to write it writes
writes_by : (op : AccessOp) (access : Asked) (old value : ℕ) → (finish_by op access old).write ≡ Some value → access_want op ≡ Write
writes_by Load access old value e = cc
writes_by Store access old value e = refl
writes_by Lr access old value e = refl
writes_by Sc access old value e = refl
writes_by (Amo op) access old value e = refl

pub writes_only : (access : Asked) (old value : ℕ) → (finish_of access old).write ≡ Some value → access_want access.op ≡ Write
writes_only access old value e = writes_by access.op access old value e

-- who tells the home of a line is a tile or the control server, and the home is the line's
pub from_reader : (c : Config) (line from to : ℕ) → goes_home c line from to ≡ true → from ≤ c.tiles
from_reader c line from to e = grind (arith, nat_tests)

pub at_home : (c : Config) (line from to : ℕ) → goes_home c line from to ≡ true → home_of c line ≡ to
at_home c line from to e = grind (arith, nat_tests)
