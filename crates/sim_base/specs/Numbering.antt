-- How the nodes of a machine are numbered, which host owns each, where each stands, and which tile is home
-- to a line. This simulator's own, after Graphite (HPCA 2010). Nodes 0 to n - 1 are the n tiles, node n is
-- the control server, and the nodes after it are the local servers of hosts 0, 1 and so on.
use Rattle.std.specs.Prelude.{ℕ, ◌+◌, ◌-◌, ◌%◌, ◌==◌, nat_lt, if◌then◌else◌}
use Rattle.sim_base.specs.declared.settings.Config.{Config}

-- how many nodes there are: the tiles, the control server, and a local server of each host
abbrev pub node_count : Config → ℕ
node_count c = c.tiles + 1 + c.hosts

-- the control server
abbrev pub control_node : Config → ℕ
control_node c = c.tiles

-- the local server of a host
abbrev pub local_node : Config → ℕ → ℕ
local_node c host = c.tiles + 1 + host

-- the host of a server: the control server is of host 0, and each local server of its own host
abbrev pub server_host : Config → ℕ → ℕ
server_host c node = if node == control_node c then 0 else node - local_node c 0

-- the host that owns a node: the tiles go round the hosts, and a server is of its host
abbrev pub host_of : Config → ℕ → ℕ
host_of c node = if nat_lt node c.tiles then node % c.hosts else server_host c node

-- the tile that is home to a line: the lines go round the tiles
abbrev pub home_of : Config → ℕ → ℕ
home_of c line = line % c.tiles

-- the tile at whose place a node stands: a tile at its own, and a server of host k at tile k's
abbrev pub place_of : Config → ℕ → ℕ
place_of c node = if nat_lt node c.tiles then node else server_host c node
