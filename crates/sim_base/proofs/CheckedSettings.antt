-- Settings that pass their check are in range, one by one.
use Rattle.std.proofs.Common.{◌≡◌, ℕ, zero, suc, ◌%◌, ◌≤◌, Bool, true, false, not, List, [], ◌∷◌, None, slice_index_or, find, refl, arith, nat_le, min, ◌==◌}
use Rattle.std.specs.Option.{option_map}
use Rattle.std.proofs.lemmas.Bool.{and_parts}
use Rattle.std.proofs.lemmas.Bool.Decides.{nat_tests}
use Rattle.sim_base.specs.declared.settings.Config.{Config}
use Rattle.sim_base.specs.declared.settings.Field.TheVariants.{Tiles}
use Rattle.sim_base.specs.Ranges.{is_within, is_within_pages}
use Rattle.sim_base.specs.Settings.{rows, IsChecked, IsInRange}

-- where no row fails, the row at each place holds
row_holds : {F : Type 0} (f : F) → (table : List (F × Bool)) → option_map (λ row. row.0) (find (λ row. not row.1) table) ≡ None → (k : ℕ) → (slice_index_or table k (f, true)).1 ≡ true
row_holds f [] _ k = refl
row_holds f ((_, true) ∷ table) h zero = refl
row_holds f ((_, true) ∷ table) h (suc k) = row_holds f table h k
row_holds f ((_, false) ∷ table) h k = cc

at_most : (n last : ℕ) → nat_le n last ≡ true → n ≤ last
at_most n last h = grind (arith, nat_tests)

whole : (n : ℕ) → (n % 4096 == 0) ≡ true → n % 4096 ≡ 0
whole n h = grind (arith, nat_tests)

within : (first last n : ℕ) → is_within first last n ≡ true → (first ≤ n) × (n ≤ last)
within first last n h =
    let parts = and_parts _ _ h in (at_most first n parts.0, at_most n last parts.1)

within_pages : (first last n : ℕ) → is_within_pages first last n ≡ true → (first ≤ n) × (n ≤ last) × (n % 4096 ≡ 0)
within_pages first last n h =
    let parts = and_parts _ _ h in
    let bounds = within first last n parts.0 in (bounds.0, bounds.1, whole n parts.1)

pub in_range : (c : Config) → IsChecked c → IsInRange c
in_range c h =
    let row : (k : ℕ) → (slice_index_or (rows c) k (Tiles, true)).1 ≡ true = row_holds Tiles (rows c) h in
    let hosts = within 1 (min c.tiles 8) c.hosts (row 1) in
    let stack = within_pages 4096 1048576 c.stack_bytes (row 4) in
    let heap = within_pages 0 67108864 c.heap_bytes (row 5) in
    record {
      some_tile = (within 1 64 c.tiles (row 0)).0;
      tiles = (within 1 64 c.tiles (row 0)).1;
      some_host = hosts.0;
      hosts = omega arith;
      hosts_of_tiles = omega arith;
      some_set = (within 1 1024 c.sets (row 2)).0;
      sets = (within 1 1024 c.sets (row 2)).1;
      some_way = (within 1 16 c.ways (row 3)).0;
      ways = (within 1 16 c.ways (row 3)).1;
      some_stack = stack.0;
      stack_bytes = stack.1;
      stack_paged = stack.2;
      heap_bytes = heap.1;
      heap_paged = heap.2;
      some_alu_cost = (within 1 1000000 c.alu_cost (row 6)).0;
      alu_cost = (within 1 1000000 c.alu_cost (row 6)).1;
      some_mul_cost = (within 1 1000000 c.mul_cost (row 7)).0;
      mul_cost = (within 1 1000000 c.mul_cost (row 7)).1;
      some_div_cost = (within 1 1000000 c.div_cost (row 8)).0;
      div_cost = (within 1 1000000 c.div_cost (row 8)).1;
      some_mem_cost = (within 1 1000000 c.mem_cost (row 9)).0;
      mem_cost = (within 1 1000000 c.mem_cost (row 9)).1;
      some_amo_cost = (within 1 1000000 c.amo_cost (row 10)).0;
      amo_cost = (within 1 1000000 c.amo_cost (row 10)).1;
      call_cost = (within 0 1000000 c.call_cost (row 11)).1;
      spawn_cost = (within 0 1000000 c.spawn_cost (row 12)).1;
      hop_cost = (within 0 1000000 c.hop_cost (row 13)).1;
      directory_cost = (within 0 1000000 c.directory_cost (row 14)).1;
      memory_cost = (within 0 1000000 c.memory_cost (row 15)).1;
      some_quantum = (within 1 1000000000 c.quantum (row 16)).0;
      quantum = (within 1 1000000000 c.quantum (row 16)).1;
      slack = (within 0 1000000000 c.slack (row 17)).1;
      some_interval = (within 1 1000000000 c.interval (row 18)).0;
      interval = (within 1 1000000000 c.interval (row 18)).1;
      some_event = (within 1 1000000 c.events (row 19)).0;
      events = (within 1 1000000 c.events (row 19)).1;
    }

-- the bounds that keep the numbers of nodes small
pub tiles_bound : (c : Config) → IsChecked c → c.tiles ≤ 64
tiles_bound c h = (in_range c h).tiles

pub hosts_bound : (c : Config) → IsChecked c → c.hosts ≤ 8
hosts_bound c h = (in_range c h).hosts

pub tiles_exist : (c : Config) → IsChecked c → 1 ≤ c.tiles
tiles_exist c h = (in_range c h).some_tile

pub hosts_exist : (c : Config) → IsChecked c → 1 ≤ c.hosts
hosts_exist c h = (in_range c h).some_host

pub hosts_of_tiles : (c : Config) → IsChecked c → c.hosts ≤ c.tiles
hosts_of_tiles c h = (in_range c h).hosts_of_tiles

pub ruleset node_bounds = (tiles_bound, hosts_bound, tiles_exist, hosts_exist, hosts_of_tiles)
