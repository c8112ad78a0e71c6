-- The arguments of the functions that write documents, as plain data.
use Rattle.std.specs.Prelude.{ℕ, ◌<◌, ◌^◌, List, String, map, length}
use Rattle.std.specs.declared.alloc.Global.{Global}
use Rattle.serde_json.specs.Data.{Data, Members}
use Rattle.serde_json.specs.View.{members_of}
use Rattle.crush_history.specs.Entries.{AreOf}
use Rattle.crush_history.specs.HistoryText.{names_of}
use Rattle.crush_history.specs.Script.{scripts_data}
use Rattle.crush_json.specs.HistoryDocument.{history_document}
use Rattle.crush_json.specs.Values.{natural}
use Rattle.crush_json.specs.declared.history.History.{History}

-- a member for each of these numbers. Each number has a name, which is the name of its member
abbrev pub number_members : List (String Global × ℕ) → Members
number_members es = members_of (map (λ e. (e.0, natural e.1)) es)

-- the value for a history
abbrev pub history_data : History → Data
history_data h = history_document (names_of (scripts_data h.scripts.now)) h.entries.now

-- the history has fewer than 2^32 entries, so that the number of each entry fits into 32 bits, and the operator of each entry has a script
pub record IsHistory (h : History) : Type 0 where
  pub few : length h.entries.now < 2 ^ 32
  pub operators : AreOf (length h.scripts.now) h.entries.now
