-- Data that lines mean are numbered from 0 in order, and their name is a text.
use Rattle.std.proofs.Common.{◌≡◌, ℕ, suc, ◌+◌, true, List, [], ◌∷◌, length, map, Option, Some, None, refl, ap, sym, ◌∙◌, subst}
use Rattle.std.specs.Option.{option_map_or}
use Rattle.std.specs.Str.{is_utf8}
use Rattle.std.proofs.lemmas.Option.{same_Some, cond_some, option_and_then_some}
use Rattle.std.proofs.lemmas.Str.{is_utf8-from_IsUtf8, IsUtf8-nil}
use Rattle.kinds.specs.Structs.{Struct}
use Rattle.llvm_core.specs.Data.{TypeTree, VoidType, Placed, Block, Function, ModuleData}
use Rattle.ll_literals.specs.Text.{Text}
use Rattle.ll_literals.specs.Escapes.{unescaped}
use Rattle.ll_literals.specs.Names.{inside, if_text, text_said, symbol_name}
use Rattle.ll_literals.specs.Chain.{◌>>=◌}
use Rattle.ll_lines.specs.Lines as L
use Rattle.ll_lines.specs.Lines.{Line, Param, File}
use Rattle.ll_bodies.specs.Scopes.{Scope, empty_scope, local_key, label_key, written_name}
use Rattle.ll_bodies.specs.Meaning.{SaidBlock, blocks_of, all_of, all_from, result_type, params_scope, blocks_scope, instruction, placed, blocks_data, function_data, count_insts, struct_data, functions_data, source_name, file_data}
use Rattle.ll_said.specs.Sayable.{IsNumbered}
use Rattle.ll_said.proofs.CountingLaws.{IsCounted, AreCountedBlocks, AreCounted, placed_number, counted_through, uncounted}
use Rattle.ll_said.proofs.FunctionLaws.{made}

-- what two steps give, each gave
pub bind_some : {A B : Type 0} (o : Option A) (g : A → Option B) (y : B) → (o >>= g) ≡ Some y → (x : A) × (o ≡ Some x) × (g x ≡ Some y)
bind_some (Some x) g y e = (x, refl, e)
bind_some None g y e = absurd cc

-- ---- lines

-- the instruction of a line has its number, name and type
pub record IsOfLine (n : ℕ) (l : Line) (p : Placed) : Type 0 where
  pub number : p.number ≡ n
  pub name : p.name ≡ written_name local_key l.result
  pub type : p.type ≡ option_map_or (λ (τ : TypeTree). τ) (result_type l.inst) VoidType

pub of_line : (structs : List Struct) (s : Scope) (n : ℕ) (l : Line) (p : Placed) → placed structs s n l ≡ Some p → IsOfLine n l p
of_line structs s n l p e =
    let i = bind_some (instruction structs s l.inst) _ p e in
    let same = same_Some _ p i.2 in
    record { number = sym (ap (λ (q : Placed). q.number) same); name = sym (ap (λ (q : Placed). q.name) same); type = sym (ap (λ (q : Placed). q.type) same) }

-- the instructions of lines, the first and the others
pub record FirstLine (structs : List Struct) (s : Scope) (n : ℕ) (l : Line) (ls : List Line) (ps : List Placed) : Type 0 where
  pub first : Placed
  pub others : List Placed
  pub is_first : placed structs s n l ≡ Some first
  pub are_others : all_from (placed structs s) (suc n) ls ≡ Some others
  pub whole : first ∷ others ≡ ps

pub first_line : (structs : List Struct) (s : Scope) (n : ℕ) (l : Line) (ls : List Line) (ps : List Placed) → all_from (placed structs s) n (l ∷ ls) ≡ Some ps → FirstLine structs s n l ls ps
first_line structs s n l ls ps e =
    let p = bind_some (placed structs s n l) (λ (p : Placed). all_from (placed structs s) (suc n) ls >>= λ (qs : List Placed). Some (p ∷ qs)) ps e in
    let qs = bind_some (all_from (placed structs s) (suc n) ls) (λ (qs : List Placed). Some (p.0 ∷ qs)) ps p.2 in
    record { first = p.0; others = qs.0; is_first = p.1; are_others = qs.1; whole = same_Some (p.0 ∷ qs.0) ps qs.2 }

pub lines_many : (structs : List Struct) (s : Scope) (n : ℕ) (ls : List Line) (ps : List Placed) → all_from (placed structs s) n ls ≡ Some ps → length ps ≡ length ls
lines_many structs s n [] ps e = ap (λ (qs : List Placed). length qs) (sym (same_Some [] ps e))
lines_many structs s n (l ∷ ls) ps e =
    let parts = first_line structs s n l ls ps e in
    ap (λ (qs : List Placed). length qs) (sym parts.whole) ∙ ap suc (lines_many structs s (suc n) ls parts.others parts.are_others)

lines_counted : (structs : List Struct) (s : Scope) (n : ℕ) (ls : List Line) (ps : List Placed) → all_from (placed structs s) n ls ≡ Some ps → IsCounted placed_number n ps
lines_counted structs s n [] ps e = subst (IsCounted placed_number n) (same_Some [] ps e) tt
lines_counted structs s n (l ∷ ls) ps e =
    let parts = first_line structs s n l ls ps e in
    subst (IsCounted placed_number n) parts.whole ((of_line structs s n l parts.first parts.is_first).number, lines_counted structs s (suc n) ls parts.others parts.are_others)

-- ---- blocks

-- the blocks of what is said, the first and the others
pub record FirstBlock (structs : List Struct) (s : Scope) (b n : ℕ) (x : SaidBlock) (xs : List SaidBlock) (cs : List Block) : Type 0 where
  pub instructions : List Placed
  pub others : List Block
  pub are_instructions : all_from (placed structs s) n x.lines ≡ Some instructions
  pub are_others : blocks_data structs s (suc b) (n + length x.lines) xs ≡ Some others
  pub whole : record { number = b; name = written_name label_key x.label; instructions = instructions } ∷ others ≡ cs

pub first_block : (structs : List Struct) (s : Scope) (b n : ℕ) (x : SaidBlock) (xs : List SaidBlock) (cs : List Block) → blocks_data structs s b n (x ∷ xs) ≡ Some cs → FirstBlock structs s b n x xs cs
first_block structs s b n x xs cs e =
    let is = bind_some (all_from (placed structs s) n x.lines) _ cs e in
    let bs = bind_some (blocks_data structs s (suc b) (n + length x.lines) xs) _ cs is.2 in
    record { instructions = is.0; others = bs.0; are_instructions = is.1; are_others = bs.1; whole = same_Some _ cs bs.2 }

blocks_counted : (structs : List Struct) (s : Scope) (b n : ℕ) (xs : List SaidBlock) (cs : List Block) → blocks_data structs s b n xs ≡ Some cs → AreCountedBlocks b n cs
blocks_counted structs s b n [] cs e = subst (AreCountedBlocks b n) (same_Some [] cs e) tt
blocks_counted structs s b n (x ∷ xs) cs e =
    let parts = first_block structs s b n x xs cs e in
    let many = lines_many structs s n x.lines parts.instructions parts.are_instructions in
    let later = blocks_counted structs s (suc b) (n + length x.lines) xs parts.others parts.are_others in
    let behind = subst (λ (k : ℕ). AreCountedBlocks (suc b) (n + k) parts.others) (sym many) later in
    subst (AreCountedBlocks b n) parts.whole (refl, lines_counted structs s n x.lines parts.instructions parts.are_instructions, behind)

-- ---- functions

-- what a function says, by its parts
pub record IsOfFunction (structs : List Struct) (f b n : ℕ) (x : L.Function) (d : Function) : Type 0 where
  pub said : List SaidBlock
  pub before : Scope
  pub scope : Scope
  pub params_are : params_scope empty_scope f 0 x.params ≡ Some before
  pub defined : blocks_scope before b n said ≡ Some scope
  pub blocks_are : blocks_data structs scope b n said ≡ Some d.blocks
  pub number : d.number ≡ f
  pub params : map (λ (p : Param). written_name local_key p.name) x.params ≡ d.params

pub of_function : (structs : List Struct) (f b n : ℕ) (x : L.Function) (d : Function) → function_data structs f b n x ≡ Some d → IsOfFunction structs f b n x d
of_function structs f b n x d e =
    let name = bind_some (symbol_name x.name) _ d e in
    let said = bind_some (blocks_of x.body) _ d name.2 in
    let s = bind_some (params_scope empty_scope f 0 x.params) _ d said.2 in
    let t = bind_some (blocks_scope s.0 b n said.0) _ d s.2 in
    let blocks = bind_some (blocks_data structs t.0 b n said.0) _ d t.2 in
    let same = same_Some (made f x name.0 blocks.0) d blocks.2 in
    record {
      said = said.0;
      before = s.0;
      scope = t.0;
      params_are = s.1;
      defined = t.1;
      blocks_are = blocks.1 ∙ ap (λ (y : Function). Some y.blocks) same;
      number = sym (ap (λ (y : Function). y.number) same);
      params = ap (λ (y : Function). y.params) same;
    }

functions_counted : (structs : List Struct) (f b n : ℕ) (xs : List L.Function) (ds : List Function) → functions_data structs f b n xs ≡ Some ds → AreCounted f b n ds
functions_counted structs f b n [] ds e = subst (AreCounted f b n) (same_Some [] ds e) tt
functions_counted structs f b n (x ∷ xs) ds e =
    let d = bind_some (function_data structs f b n x) _ ds e in
    let more = bind_some (functions_data structs (suc f) (b + length d.0.blocks) (n + count_insts d.0.blocks) xs) _ ds d.2 in
    let parts = of_function structs f b n x d.0 d.1 in
    let blocks = blocks_counted structs parts.scope b n parts.said d.0.blocks parts.blocks_are in
    subst (AreCounted f b n) (same_Some _ ds more.2) (parts.number, blocks, functions_counted structs (suc f) (b + length d.0.blocks) (n + count_insts d.0.blocks) xs more.0 more.1)

-- what holds of the functions that lines mean holds of those of a file
pub of_file : (P : List Function → Type 0) → ((structs : List Struct) (xs : List L.Function) (ds : List Function) → functions_data structs 0 0 0 xs ≡ Some ds → P ds) → (m : File) (d : ModuleData) → file_data m ≡ Some d → P d.functions
of_file P step m d e =
    let name = bind_some (source_name m.source) _ d e in
    let ss = bind_some (all_of struct_data m.structs) _ d name.2 in
    let fs = bind_some (functions_data ss.0 0 0 0 m.functions) _ d ss.2 in
    subst (λ (x : ModuleData). P x.functions) (same_Some _ d fs.2) (step ss.0 m.functions fs.0 fs.1)

pub numbers_count : (m : File) (d : ModuleData) → file_data m ≡ Some d → IsNumbered d
numbers_count m d e =
    let through = counted_through 0 0 0 d.functions (of_file (AreCounted 0 0 0) (λ structs. functions_counted structs 0 0 0) m d e) in
    record { functions = uncounted _ 0 _ through.functions; blocks = uncounted _ 0 _ through.blocks; instructions = uncounted _ 0 _ through.instructions }

-- ---- the name of the module

text_utf8 : (t n : Text) → if_text t ≡ Some n → is_utf8 n ≡ true
text_utf8 t n e = let both = cond_some (is_utf8 t) t n e in subst (λ (u : Text). is_utf8 u ≡ true) both.1 both.0

said_utf8 : (t n : Text) → text_said t ≡ Some n → is_utf8 n ≡ true
said_utf8 t n e = option_and_then_some (λ (u : Text). if_text (unescaped u)) (inside t) n e (λ u is says. text_utf8 (unescaped u) n says)

source_utf8 : (source : Option Text) (n : Text) → source_name source ≡ Some n → is_utf8 n ≡ true
source_utf8 None n e = subst (λ (u : Text). is_utf8 u ≡ true) (same_Some [] n e) (is_utf8-from_IsUtf8 [] IsUtf8-nil)
source_utf8 (Some t) n e = said_utf8 t n e

pub utf8_name : (m : File) (d : ModuleData) → file_data m ≡ Some d → is_utf8 d.name ≡ true
utf8_name m d e =
    let name = bind_some (source_name m.source) _ d e in
    let ss = bind_some (all_of struct_data m.structs) _ d name.2 in
    let fs = bind_some (functions_data ss.0 0 0 0 m.functions) _ d ss.2 in
    subst (λ (x : ModuleData). is_utf8 x.name ≡ true) (same_Some _ d fs.2) (source_utf8 m.source name.0 name.1)
