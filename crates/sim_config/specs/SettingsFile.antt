-- What a settings file says: the settings, or the first thing that it is refused for. It is TOML 1.1; the keys and the
-- order of refusals are this simulator's own.
use Rattle.std.specs.Prelude.{◌≡◌, ℕ, pos, ◌^◌, ◌||◌, Bool, true, false, not, nat_lt, List, [], ◌∷◌, length, find, if◌then◌else◌, Option, Some, None, is_some, unwrap_or, option_and_then, Result, Ok, Err, codes}
use Rattle.std.specs.List.{list_any}
use Rattle.std.specs.Option.{option_map_or}
use Rattle.std.specs.Str.{bytes_eq, is_utf8}
use Rattle.toml.specs.Data.{Data, string, integer, Members, no_members, member, get_member}
use Rattle.toml.specs.Parse.{parse_document}
use Rattle.sim_base.specs.declared.kinds.Policy.{Policy}
use Rattle.sim_base.specs.declared.kinds.Policy.TheVariants.{Lax, LaxBarrier, LaxP2p}
use Rattle.sim_base.specs.declared.settings.Config.{Config}
use Rattle.sim_base.specs.declared.settings.Field.{Field}
use Rattle.sim_base.specs.declared.settings.Field.TheVariants as field
use Rattle.sim_base.specs.Settings.{default_settings, first_bad}
use Rattle.sim_config.specs.declared.faults.ConfigFault.{ConfigFault}
use Rattle.sim_config.specs.declared.faults.ConfigFault.TheVariants.{Bad, NoMemory}

-- The keys

-- the settings in the table's order
abbrev pub fields : List Field
fields =
    field.Tiles ∷ field.Hosts ∷ field.Sets ∷ field.Ways ∷ field.StackBytes ∷ field.HeapBytes
    ∷ field.AluCost ∷ field.MulCost ∷ field.DivCost ∷ field.MemCost ∷ field.AmoCost
    ∷ field.CallCost ∷ field.SpawnCost ∷ field.HopCost ∷ field.DirectoryCost ∷ field.MemoryCost
    ∷ field.Policy ∷ field.Quantum ∷ field.Slack ∷ field.Interval ∷ field.Events ∷ field.Seed ∷ []

-- the key of a setting, or the name of what else a file is refused for
abbrev pub key_of : Field → List ℕ
key_of field.Length = codes "length"
key_of field.Text = codes "text"
key_of field.Unknown = codes "unknown"
key_of field.Tiles = codes "tiles"
key_of field.Hosts = codes "hosts"
key_of field.Sets = codes "sets"
key_of field.Ways = codes "ways"
key_of field.StackBytes = codes "stack_bytes"
key_of field.HeapBytes = codes "heap_bytes"
key_of field.AluCost = codes "alu_cost"
key_of field.MulCost = codes "mul_cost"
key_of field.DivCost = codes "div_cost"
key_of field.MemCost = codes "mem_cost"
key_of field.AmoCost = codes "amo_cost"
key_of field.CallCost = codes "call_cost"
key_of field.SpawnCost = codes "spawn_cost"
key_of field.HopCost = codes "hop_cost"
key_of field.DirectoryCost = codes "directory_cost"
key_of field.MemoryCost = codes "memory_cost"
key_of field.Policy = codes "policy"
key_of field.Quantum = codes "quantum"
key_of field.Slack = codes "slack"
key_of field.Interval = codes "interval"
key_of field.Events = codes "events"
key_of field.Seed = codes "seed"

-- a setting has this key
abbrev pub is_known : List ℕ → Bool
is_known key = list_any (λ setting. bytes_eq (key_of setting) key) fields

-- a key at the file's top level is that of no setting
abbrev pub has_unknown_key : Members → Bool
has_unknown_key no_members = false
has_unknown_key (member key value others) = not (is_known key) || has_unknown_key others

-- Values by their types

-- the number that a value is, where it is an integer of so many bits without a sign
abbrev pub number_in : ℕ → Data → Option ℕ
number_in bits (integer (pos n)) = if nat_lt n (2 ^ bits) then Some n else None
number_in bits _ = None

-- the policy of a name
abbrev pub policy_named : List ℕ → Option Policy
policy_named name =
    if bytes_eq name (codes "lax") then Some Lax
    else (if bytes_eq name (codes "barrier") then Some LaxBarrier
    else (if bytes_eq name (codes "p2p") then Some LaxP2p else None))

-- the policy that a value names, where it is a string
abbrev pub policy_in : Data → Option Policy
policy_in (string name) = policy_named name
policy_in _ = None

-- the value has the setting's type: a policy's name, or an integer of 32 or of 64 bits
abbrev pub is_of_type : Field → Data → Bool
is_of_type field.Policy value = is_some (policy_in value)
is_of_type field.Tiles value = is_some (number_in 32 value)
is_of_type field.Hosts value = is_some (number_in 32 value)
is_of_type field.Sets value = is_some (number_in 32 value)
is_of_type field.Ways value = is_some (number_in 32 value)
is_of_type field.Events value = is_some (number_in 32 value)
is_of_type _ value = is_some (number_in 64 value)

-- The settings of a document

-- a number, or its default where its key is missing or its value isn't of its type
abbrev pub number_at : ℕ → Members → Field → ℕ → ℕ
number_at bits members setting default = unwrap_or (option_and_then (number_in bits) (get_member (key_of setting) members)) default

abbrev pub policy_at : Members → Field → Policy → Policy
policy_at members setting default = unwrap_or (option_and_then policy_in (get_member (key_of setting) members)) default

-- the settings, with the default of each whose key is missing or whose value isn't of its type
abbrev pub config_in : Members → Config
config_in members = record {
  tiles = number_at 32 members field.Tiles default_settings.tiles;
  hosts = number_at 32 members field.Hosts default_settings.hosts;
  sets = number_at 32 members field.Sets default_settings.sets;
  ways = number_at 32 members field.Ways default_settings.ways;
  stack_bytes = number_at 64 members field.StackBytes default_settings.stack_bytes;
  heap_bytes = number_at 64 members field.HeapBytes default_settings.heap_bytes;
  alu_cost = number_at 64 members field.AluCost default_settings.alu_cost;
  mul_cost = number_at 64 members field.MulCost default_settings.mul_cost;
  div_cost = number_at 64 members field.DivCost default_settings.div_cost;
  mem_cost = number_at 64 members field.MemCost default_settings.mem_cost;
  amo_cost = number_at 64 members field.AmoCost default_settings.amo_cost;
  call_cost = number_at 64 members field.CallCost default_settings.call_cost;
  spawn_cost = number_at 64 members field.SpawnCost default_settings.spawn_cost;
  hop_cost = number_at 64 members field.HopCost default_settings.hop_cost;
  directory_cost = number_at 64 members field.DirectoryCost default_settings.directory_cost;
  memory_cost = number_at 64 members field.MemoryCost default_settings.memory_cost;
  policy = policy_at members field.Policy default_settings.policy;
  quantum = number_at 64 members field.Quantum default_settings.quantum;
  slack = number_at 64 members field.Slack default_settings.slack;
  interval = number_at 64 members field.Interval default_settings.interval;
  events = number_at 32 members field.Events default_settings.events;
  seed = number_at 64 members field.Seed default_settings.seed;
}

-- a setting's key is missing, or its value has the setting's type
abbrev pub fits : Members → Field → Bool
fits members setting = option_map_or (is_of_type setting) (get_member (key_of setting) members) true

-- the setting is the one that was found
abbrev pub is_found : Option Field → Field → Bool
is_found None setting = false
is_found (Some found) setting = bytes_eq (key_of found) (key_of setting)

-- the first setting in the table's order whose value isn't of its type, or that was found to be the first out of its range
abbrev pub first_refused : Members → Option Field → Option Field
first_refused members out_of_range = find (λ setting. not (fits members setting) || is_found out_of_range setting) fields

-- Files

-- the settings, or the first refusal, where there is one
abbrev pub unless_refused : Option Field → Config → Result Config Field
unless_refused (Some setting) config = Err setting
unless_refused None config = Ok config

-- what a document says, where the file is one
abbrev pub document_settings : Option Members → Result Config Field
document_settings None = Err field.Text
document_settings (Some members) =
    if has_unknown_key members then Err field.Unknown
    else unless_refused (first_refused members (first_bad (config_in members))) (config_in members)

-- the document that a file is, where it is UTF-8 and TOML
abbrev pub document : List ℕ → Option Members
document bytes = if is_utf8 bytes then parse_document bytes else None

-- what a file says: first its length, then its text
unfoldable pub settings : List ℕ → Result Config Field
settings bytes = if nat_lt 65536 (length bytes) then Err field.Length else document_settings (document bytes)

-- an answer tells what a file says, or that memory ran out
abbrev pub TellsConfig : Result Config ConfigFault → Result Config Field → Type 0
TellsConfig (Ok config) said = said ≡ Ok config
TellsConfig (Err (Bad setting)) said = said ≡ Err setting
TellsConfig (Err NoMemory) said = Unit {0}
