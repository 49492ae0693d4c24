-- What names and numbers stand for in a function: keys, and scopes in the order of the text.
use Rattle.std.specs.Prelude.{ℕ, ◌+◌, ◌-◌, Bool, false, nat_le, nat_lt, nat_eq, [], length, take, drop, Option, Some, None, if◌then◌else◌}
use Rattle.std.specs.Str.{bytes_eq}
use Rattle.std.specs.Option.{option_map, option_and_then}
use Rattle.kinds.specs.Types.{TypeTree, same_tree}
use Rattle.llvm_core.specs.Data.{Operand}
use Rattle.ll_literals.specs.Chain.{◌>>=◌}
use Rattle.ll_literals.specs.Numbers.{number_of, number_limit, is_digits}
use Rattle.ll_literals.specs.Names.{name_said}
use Rattle.ll_lines.specs.Lines.{Text}

-- ---- keys

-- a name or a number of a function's scope
pub data Key : Type 0 where
  Named : Text → Key
  Numbered : (number : ℕ) → Key

abbrev pub same_key : Key → Key → Bool
same_key (Named a) (Named b) = bytes_eq a b
same_key (Named a) (Numbered n) = false
same_key (Numbered m) (Named b) = false
same_key (Numbered m) (Numbered n) = nat_eq m n

-- the key that a name or digits say: what is written in several ways and says one name is one key
abbrev pub key_of : Text → Option Key
key_of t = if is_digits t then option_map Numbered (number_of t) else option_map Named (name_said t)

-- of a token % and a name or digits
abbrev pub local_key : Text → Option Key
local_key t = key_of (drop 1 t)

-- of a label, which ends in a colon
abbrev pub label_key : Text → Option Key
label_key t = key_of (take (length t - 1) t)

-- what is written, where it is, as a key
abbrev pub optional_key : (Text → Option Key) → Option Text → Option (Option Key)
optional_key key None = Some None
optional_key key (Some t) = option_map Some (key t)

-- the name in the data of what is defined under a key: a number is no name
abbrev pub key_name : Option Key → Text
key_name None = []
key_name (Some (Named name)) = name
key_name (Some (Numbered n)) = []

-- ---- scopes

-- what a key stands for: a value of a type, or a block
pub data Local : Type 0 where
  ValueLocal : Operand → TypeTree → Local
  BlockLocal : (block : ℕ) → Local

-- what is defined so far in a function, and the counter of what has no name
pub record Scope : Type 0 where
  pub next : ℕ
  pub known : Key → Option Local

abbrev pub empty_scope : Scope
empty_scope = record { next = 0; known = λ (k : Key). None }

-- the scope in which the key stands for that
abbrev pub with_key : Scope → Key → Local → (next : ℕ) → Scope
with_key s k x next = record { next = next; known = λ (j : Key). if same_key k j then Some x else s.known j }

-- the thing takes that number, and the counter is one more than it
abbrev pub counted : Scope → Local → ℕ → Option Scope
counted s x n = if nat_lt n number_limit then Some (with_key s (Numbered n) x (n + 1)) else None

-- The scope after the next thing of a function. What has neither a name nor a number takes the counter; a written
-- number is at least the counter.
abbrev pub define : Scope → Local → Option Key → Option Scope
define s x None = counted s x s.next
define s x (Some (Named t)) = Some (with_key s (Named t) x s.next)
define s x (Some (Numbered n)) = if nat_le s.next n then counted s x n else None

-- the same with what is written of its name
abbrev pub define_written : Scope → Local → (Text → Option Key) → Option Text → Option Scope
define_written s x key written = optional_key key written >>= λ k. define s x k

-- the name in the data of what is written so, empty where there is none
abbrev pub written_name : (Text → Option Key) → Option Text → Text
written_name key None = []
written_name key (Some t) = key_name (key t)

-- ---- what is looked up

-- what a local stands for, by its token
abbrev pub local_of : Scope → Text → Option Local
local_of s t = option_and_then s.known (local_key t)

-- a value of that type
abbrev pub value_of_type : TypeTree → Option Local → Option Operand
value_of_type τ None = None
value_of_type τ (Some (BlockLocal b)) = None
value_of_type τ (Some (ValueLocal o υ)) = if same_tree υ τ then Some o else None

-- a block
abbrev pub option_block : Option Local → Option ℕ
option_block None = None
option_block (Some (BlockLocal b)) = Some b
option_block (Some (ValueLocal o υ)) = None

-- a block of the function
abbrev pub block_of : Scope → Text → Option ℕ
block_of s t = option_block (local_of s t)
