-- The settings of a simulated machine: the range of each, the default ones, and the first that is out of
-- its range. This simulator's own.
use Rattle.std.specs.Prelude.{◌%◌, ◌≤◌, ◌≡◌, Bool, not, min, List, [], ◌∷◌, find, Option, None}
use Rattle.std.specs.Option.{option_map}
use Rattle.sim_base.specs.declared.kinds.Policy.TheVariants.{Lax}
use Rattle.sim_base.specs.declared.settings.Config.{Config}
use Rattle.sim_base.specs.declared.settings.Field.{Field}
use Rattle.sim_base.specs.Ranges.{is_within, is_within_pages}
use Rattle.sim_base.specs.declared.settings.Field.TheVariants.{Tiles, Hosts, Sets, Ways, StackBytes, HeapBytes, AluCost, MulCost, DivCost, MemCost, AmoCost, CallCost, SpawnCost, HopCost, DirectoryCost, MemoryCost, Quantum, Slack, Interval, Events}

-- the default settings
abbrev pub default_settings : Config
default_settings = record {
  tiles = 4;
  hosts = 1;
  sets = 16;
  ways = 4;
  stack_bytes = 65536;
  heap_bytes = 1048576;
  alu_cost = 1;
  mul_cost = 3;
  div_cost = 20;
  mem_cost = 1;
  amo_cost = 4;
  call_cost = 20;
  spawn_cost = 100;
  hop_cost = 2;
  directory_cost = 6;
  memory_cost = 60;
  policy = Lax;
  quantum = 1000;
  slack = 100000;
  interval = 10000;
  events = 1000000;
  seed = 1;
}

-- each setting that has a range, in the table's order, with whether it is within it. Every policy and
-- every seed will do, so those two have no row
abbrev pub rows : Config → List (Field × Bool)
rows c =
    (Tiles, is_within 1 64 c.tiles)
    ∷ (Hosts, is_within 1 (min c.tiles 8) c.hosts)
    ∷ (Sets, is_within 1 1024 c.sets)
    ∷ (Ways, is_within 1 16 c.ways)
    ∷ (StackBytes, is_within_pages 4096 1048576 c.stack_bytes)
    ∷ (HeapBytes, is_within_pages 0 67108864 c.heap_bytes)
    ∷ (AluCost, is_within 1 1000000 c.alu_cost)
    ∷ (MulCost, is_within 1 1000000 c.mul_cost)
    ∷ (DivCost, is_within 1 1000000 c.div_cost)
    ∷ (MemCost, is_within 1 1000000 c.mem_cost)
    ∷ (AmoCost, is_within 1 1000000 c.amo_cost)
    ∷ (CallCost, is_within 0 1000000 c.call_cost)
    ∷ (SpawnCost, is_within 0 1000000 c.spawn_cost)
    ∷ (HopCost, is_within 0 1000000 c.hop_cost)
    ∷ (DirectoryCost, is_within 0 1000000 c.directory_cost)
    ∷ (MemoryCost, is_within 0 1000000 c.memory_cost)
    ∷ (Quantum, is_within 1 1000000000 c.quantum)
    ∷ (Slack, is_within 0 1000000000 c.slack)
    ∷ (Interval, is_within 1 1000000000 c.interval)
    ∷ (Events, is_within 1 1000000 c.events)
    ∷ []

-- the first setting that is out of its range, if one is
abbrev pub first_bad : Config → Option Field
first_bad c = option_map (λ row. row.0) (find (λ row. not row.1) (rows c))

-- no setting is out of its range
abbrev pub IsChecked : Config → Type 0
IsChecked c = first_bad c ≡ None

-- the ranges of settings that were checked, one by one
pub record IsInRange (c : Config) : Type 0 where
  pub some_tile : 1 ≤ c.tiles
  pub tiles : c.tiles ≤ 64
  pub some_host : 1 ≤ c.hosts
  pub hosts : c.hosts ≤ 8
  pub hosts_of_tiles : c.hosts ≤ c.tiles
  pub some_set : 1 ≤ c.sets
  pub sets : c.sets ≤ 1024
  pub some_way : 1 ≤ c.ways
  pub ways : c.ways ≤ 16
  pub some_stack : 4096 ≤ c.stack_bytes
  pub stack_bytes : c.stack_bytes ≤ 1048576
  pub stack_paged : c.stack_bytes % 4096 ≡ 0
  pub heap_bytes : c.heap_bytes ≤ 67108864
  pub heap_paged : c.heap_bytes % 4096 ≡ 0
  pub some_alu_cost : 1 ≤ c.alu_cost
  pub alu_cost : c.alu_cost ≤ 1000000
  pub some_mul_cost : 1 ≤ c.mul_cost
  pub mul_cost : c.mul_cost ≤ 1000000
  pub some_div_cost : 1 ≤ c.div_cost
  pub div_cost : c.div_cost ≤ 1000000
  pub some_mem_cost : 1 ≤ c.mem_cost
  pub mem_cost : c.mem_cost ≤ 1000000
  pub some_amo_cost : 1 ≤ c.amo_cost
  pub amo_cost : c.amo_cost ≤ 1000000
  pub call_cost : c.call_cost ≤ 1000000
  pub spawn_cost : c.spawn_cost ≤ 1000000
  pub hop_cost : c.hop_cost ≤ 1000000
  pub directory_cost : c.directory_cost ≤ 1000000
  pub memory_cost : c.memory_cost ≤ 1000000
  pub some_quantum : 1 ≤ c.quantum
  pub quantum : c.quantum ≤ 1000000000
  pub slack : c.slack ≤ 1000000000
  pub some_interval : 1 ≤ c.interval
  pub interval : c.interval ≤ 1000000000
  pub some_event : 1 ≤ c.events
  pub events : c.events ≤ 1000000
