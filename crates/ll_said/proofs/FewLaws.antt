-- Of functions that lines mean, the unnamed things have numbers: they are few.
use Rattle.std.proofs.Common.{◌≡◌, ℕ, suc, ◌+◌, ◌-◌, ◌≤◌, ◌<◌, Bool, true, false, cond, nat_le, nat_lt, List, [], ◌∷◌, ◌++◌, length, length-append, map, take, drop, Option, Some, None, if◌then◌else◌, All, refl, ap, sym, subst, arith}
use Rattle.std.specs.List.{flat_map, AllByRecursion}
use Rattle.std.specs.Option.{option_map, option_map_or}
use Rattle.std.proofs.lemmas.Bool.{cond_both}
use Rattle.std.proofs.lemmas.List.Elements.{All-from_recursion}
use Rattle.std.proofs.lemmas.Option.{same_Some, cond_some, option_and_then_some}
use Rattle.kinds.specs.Types.{TypeTree, VoidType}
use Rattle.kinds.specs.Held.{is_void}
use Rattle.kinds.specs.Structs.{Struct}
use Rattle.llvm_core.specs.Data.{Result, Parameter, Placed, Block, Function, ModuleData}
use Rattle.llvm_core.specs.Form.{IsForm, HasDistinctNames}
use Rattle.ll_literals.specs.Text.{Text}
use Rattle.ll_literals.specs.Numbers.{number_limit, number_of, is_digits}
use Rattle.ll_literals.specs.Names.{is_bare, is_name, if_name, quoted_name, text_said, name_said}
use Rattle.ll_literals.specs.Chain.{◌>>=◌}
use Rattle.ll_lines.specs.Lines as L
use Rattle.ll_lines.specs.Lines.{Line, Param, File}
use Rattle.ll_bodies.specs.Scopes.{Key, Named, Numbered, key_of, key_name, local_key, label_key, Local, ValueLocal, BlockLocal, Scope, empty_scope, with_key, counted, define, define_written, written_name}
use Rattle.ll_bodies.specs.Meaning.{SaidBlock, all_from, result_type, result_scope, lines_scope, params_scope, blocks_scope, placed, blocks_data, function_data, count_insts, functions_data, file_data}
use Rattle.ll_said.specs.Naming.{Unnamed, ParamAt, BlockOf, ResultOf, if_unnamed, unnamed_params, unnamed_result, unnamed_block}
use Rattle.ll_said.specs.Sayable.{HasFewUnnamed, IsSayableModule}
use Rattle.ll_said.proofs.FileLaws.{sayable_from}
use Rattle.ll_said.proofs.MeantLaws.{bind_some, IsOfLine, of_line, first_line, first_block, IsOfFunction, of_function, of_file, utf8_name}

-- ---- the counter

-- from one scope to a later one the counter rises by the unnamed things between them, or more, and stays within the limit
pub record Rises (xs : List Unnamed) (s t : Scope) : Type 0 where
  pub next : length xs + s.next ≤ t.next
  pub limit : s.next ≤ number_limit → t.next ≤ number_limit

still : (s : Scope) → Rises [] s s
still s = record { next = omega arith; limit = λ h. h }

weaker : (xs : List Unnamed) (s t : Scope) → Rises xs s t → Rises [] s t
weaker xs s t h = let next = h.next in record { next = omega (arith, next); limit = h.limit }

joined : (xs ys : List Unnamed) (s t u : Scope) → Rises xs s t → Rises ys t u → Rises (xs ++ ys) s u
joined xs ys s t u h g =
    let one = h.next in
    let more = g.next in
    record { next = omega (arith, length-append xs ys, one, more); limit = λ l. g.limit (h.limit l) }

-- ---- one thing

counted_rises : (s : Scope) (x : Local) (n : ℕ) (t : Scope) (y : Unnamed) → s.next ≤ n → counted s x n ≡ Some t → Rises (y ∷ []) s t
counted_rises s x n t y le e = by (nat_lt n number_limit) refl e
  where
    by : (b : Bool) → nat_lt n number_limit ≡ b → (if b then Some (with_key s (Numbered n) x (n + 1)) else None) ≡ Some t → Rises (y ∷ []) s t
    by true below e =
        let same = same_Some (with_key s (Numbered n) x (n + 1)) t e in
        let next : n + 1 ≡ t.next = ap (λ (u : Scope). u.next) same in
        let less : n < number_limit = grind (arith, below) in
        record { next = omega (arith, le, next); limit = λ h. omega (arith, less, next) }
    by false below e = absurd cc

-- a name that is written is not empty
abbrev IsProper : Option Key → Type 0
IsProper None = Unit {0}
IsProper (Some (Named [])) = ⊥
IsProper (Some (Named (b ∷ bs))) = Unit {0}
IsProper (Some (Numbered n)) = Unit {0}

-- nor is one that is said
name_proper : (t n : Text) → if_name t ≡ Some n → IsProper (Some (Named n))
name_proper t [] e = let both = cond_some (is_name t) t [] e in let empty : is_name [] ≡ true = subst (λ (u : Text). is_name u ≡ true) both.1 both.0 in absurd cc
name_proper t (b ∷ bs) e = tt

said_proper : (t n : Text) → name_said t ≡ Some n → IsProper (Some (Named n))
said_proper t n e = by (is_bare t) refl e
  where
    of_bare : (n : Text) → is_bare n ≡ true → IsProper (Some (Named n))
    of_bare [] bare = absurd cc
    of_bare (b ∷ bs) bare = tt

    by : (v : Bool) → is_bare t ≡ v → cond v (Some t) (quoted_name t) ≡ Some n → IsProper (Some (Named n))
    by true bare e = subst (λ (u : Text). IsProper (Some (Named u))) (same_Some t n e) (of_bare t bare)
    by false bare e = option_and_then_some if_name (text_said t) n e (λ u is says. name_proper u n says)

key_proper : (t : Text) (k : Key) → key_of t ≡ Some k → IsProper (Some k)
key_proper t k e = by (is_digits t) (number_of t) (name_said t) refl e
  where
    by : (d : Bool) (n : Option ℕ) (name : Option Text) → name_said t ≡ name → cond d (option_map Numbered n) (option_map Named name) ≡ Some k → IsProper (Some k)
    by true (Some n) name is e = subst (λ (k : Key). IsProper (Some k)) (same_Some (Numbered n) k e) tt
    by true None name is e = absurd cc
    by false n (Some name) is e = subst (λ (k : Key). IsProper (Some k)) (same_Some (Named name) k e) (said_proper t name is)
    by false n None is e = absurd cc

define_rises : (s : Scope) (x : Local) (k : Option Key) (t : Scope) (y : Unnamed) → IsProper k → define s x k ≡ Some t → Rises (if_unnamed (key_name k) y) s t
define_rises s x None t y proper e = counted_rises s x s.next t y (omega arith) e
define_rises s x (Some (Named [])) t y proper e = elim proper [ ]
define_rises s x (Some (Named (b ∷ bs))) t y proper e = subst (Rises [] s) (same_Some (with_key s (Named (b ∷ bs)) x s.next) t e) (record { next = omega arith; limit = λ h. h })
define_rises s x (Some (Numbered n)) t y proper e = by (nat_le s.next n) refl e
  where
    by : (b : Bool) → nat_le s.next n ≡ b → (if b then counted s x n else None) ≡ Some t → Rises (y ∷ []) s t
    by true above e = counted_rises s x n t y (let le : s.next ≤ n = grind (arith, above) in le) e
    by false above e = absurd cc

written_rises : (s : Scope) (x : Local) (key : Text → Option Key) → ((w : Text) (k : Key) → key w ≡ Some k → IsProper (Some k)) → (written : Option Text) (t : Scope) (y : Unnamed) → define_written s x key written ≡ Some t → Rises (if_unnamed (written_name key written) y) s t
written_rises s x key proper None t y e = define_rises s x None t y tt e
written_rises s x key proper (Some w) t y e = by (key w) refl e
  where
    by : (o : Option Key) → key w ≡ o → (option_map Some o >>= λ (k : Option Key). define s x k) ≡ Some t → Rises (if_unnamed (key_name o) y) s t
    by None is e = absurd cc
    by (Some k) is e = define_rises s x (Some k) t y (proper w k is) e

local_proper : (w : Text) (k : Key) → local_key w ≡ Some k → IsProper (Some k)
local_proper w k e = key_proper (drop 1 w) k e

label_proper : (w : Text) (k : Key) → label_key w ≡ Some k → IsProper (Some k)
label_proper w k e = key_proper (take (length w - 1) w) k e

-- ---- lines, blocks and parameters

result_rises : (s t : Scope) (n : ℕ) (l : Line) (p : Placed) → IsOfLine n l p → result_scope s n (result_type l.inst) l.result ≡ Some t → Rises (unnamed_result p.type p) s t
result_rises s t n l p of e = by (result_type l.inst) of.type e
  where
    named : (τ : TypeTree) → define_written s (ValueLocal (Result n) τ) local_key l.result ≡ Some t → Rises (if_unnamed p.name (ResultOf p.number)) s t
    named τ e = subst (λ (m : Text). Rises (if_unnamed m (ResultOf p.number)) s t) (sym of.name) (written_rises s (ValueLocal (Result n) τ) local_key local_proper l.result t (ResultOf p.number) e)

    typed : (τ : TypeTree) → define_written s (ValueLocal (Result n) τ) local_key l.result ≡ Some t → Rises (unnamed_result τ p) s t
    typed τ e = cond_both (is_void τ) [] (if_unnamed p.name (ResultOf p.number)) (λ (xs : List Unnamed). Rises xs s t) (λ void. weaker (if_unnamed p.name (ResultOf p.number)) s t (named τ e)) (λ some. named τ e)

    untyped : (w : Option Text) → result_scope s n None w ≡ Some t → Rises [] s t
    untyped None e = subst (Rises [] s) (same_Some s t e) (still s)
    untyped (Some w) e = absurd cc

    by : (o : Option TypeTree) → p.type ≡ option_map_or (λ (τ : TypeTree). τ) o VoidType → result_scope s n o l.result ≡ Some t → Rises (unnamed_result p.type p) s t
    by (Some τ) type e = subst (λ (υ : TypeTree). Rises (unnamed_result υ p) s t) (sym type) (typed τ e)
    by None type e = subst (λ (υ : TypeTree). Rises (unnamed_result υ p) s t) (sym type) (untyped l.result e)

abbrev of_lines : List Placed → List Unnamed
of_lines ps = flat_map (λ (p : Placed). unnamed_result p.type p) ps

-- u is the scope of the whole function
lines_rise : (structs : List Struct) (s t u : Scope) (n : ℕ) (ls : List Line) (ps : List Placed) → lines_scope s n ls ≡ Some t → all_from (placed structs u) n ls ≡ Some ps → Rises (of_lines ps) s t
lines_rise structs s t u n [] ps e g = subst (λ (qs : List Placed). Rises (of_lines qs) s t) (same_Some [] ps g) (subst (Rises [] s) (same_Some s t e) (still s))
lines_rise structs s t u n (l ∷ ls) ps e g =
    let step = bind_some (result_scope s n (result_type l.inst) l.result) (λ (v : Scope). lines_scope v (suc n) ls) t e in
    let parts = first_line structs u n l ls ps g in
    let p = parts.first in
    let one = result_rises s step.0 n l p (of_line structs u n l p parts.is_first) step.1 in
    let more = lines_rise structs step.0 t u (suc n) ls parts.others step.2 parts.are_others in
    subst (λ (qs : List Placed). Rises (of_lines qs) s t) parts.whole (joined (unnamed_result p.type p) (of_lines parts.others) s step.0 t one more)

blocks_rise : (structs : List Struct) (s t u : Scope) (b n : ℕ) (xs : List SaidBlock) (cs : List Block) → blocks_scope s b n xs ≡ Some t → blocks_data structs u b n xs ≡ Some cs → Rises (flat_map unnamed_block cs) s t
blocks_rise structs s t u b n [] cs e g = subst (λ (ds : List Block). Rises (flat_map unnamed_block ds) s t) (same_Some [] cs g) (subst (Rises [] s) (same_Some s t e) (still s))
blocks_rise structs s t u b n (x ∷ xs) cs e g =
    let first = bind_some (define_written s (BlockLocal b) label_key x.label) _ t e in
    let second = bind_some (lines_scope first.0 n x.lines) _ t first.2 in
    let parts = first_block structs u b n x xs cs g in
    let name = written_rises s (BlockLocal b) label_key label_proper x.label first.0 (BlockOf b) first.1 in
    let lines = lines_rise structs first.0 second.0 u n x.lines parts.instructions second.1 parts.are_instructions in
    let more = blocks_rise structs second.0 t u (suc b) (n + length x.lines) xs parts.others second.2 parts.are_others in
    let block = if_unnamed (written_name label_key x.label) (BlockOf b) in
    let results = of_lines parts.instructions in
    let here = joined block results s first.0 second.0 name lines in
    subst (λ (ds : List Block). Rises (flat_map unnamed_block ds) s t) parts.whole (joined (block ++ results) (flat_map unnamed_block parts.others) s second.0 t here more)

params_rise : (s t : Scope) (f i : ℕ) (ps : List Param) → params_scope s f i ps ≡ Some t → Rises (unnamed_params i (map (λ (p : Param). written_name local_key p.name) ps)) s t
params_rise s t f i [] e = subst (Rises [] s) (same_Some s t e) (still s)
params_rise s t f i (p ∷ ps) e =
    let step = bind_some (define_written s (ValueLocal (Parameter f i) p.type) local_key p.name) _ t e in
    let one = written_rises s (ValueLocal (Parameter f i) p.type) local_key local_proper p.name step.0 (ParamAt i) step.1 in
    let more = params_rise step.0 t f (suc i) ps step.2 in
    joined (if_unnamed (written_name local_key p.name) (ParamAt i)) (unnamed_params (suc i) (map (λ (p : Param). written_name local_key p.name) ps)) s step.0 t one more

-- ---- functions

function_few : (structs : List Struct) (f b n : ℕ) (x : L.Function) (d : Function) → IsOfFunction structs f b n x d → HasFewUnnamed d
function_few structs f b n x d parts =
    let params = params_rise empty_scope parts.before f 0 x.params parts.params_are in
    let of_params = subst (λ (ns : List Text). Rises (unnamed_params 0 ns) empty_scope parts.before) parts.params params in
    let of_blocks = blocks_rise structs parts.before parts.scope parts.scope b n parts.said d.blocks parts.defined parts.blocks_are in
    let all = joined (unnamed_params 0 d.params) (flat_map unnamed_block d.blocks) empty_scope parts.before parts.scope of_params of_blocks in
    let next = all.next in
    let limit = all.limit (omega arith) in
    omega (arith, next, limit)

functions_few : (structs : List Struct) (f b n : ℕ) (xs : List L.Function) (ds : List Function) → functions_data structs f b n xs ≡ Some ds → AllByRecursion HasFewUnnamed ds
functions_few structs f b n [] ds e = subst (AllByRecursion HasFewUnnamed) (same_Some [] ds e) tt
functions_few structs f b n (x ∷ xs) ds e =
    let d = bind_some (function_data structs f b n x) _ ds e in
    let more = bind_some (functions_data structs (suc f) (b + length d.0.blocks) (n + count_insts d.0.blocks) xs) _ ds d.2 in
    subst (AllByRecursion HasFewUnnamed) (same_Some _ ds more.2) (function_few structs f b n x d.0 (of_function structs f b n x d.0 d.1), functions_few structs (suc f) (b + length d.0.blocks) (n + count_insts d.0.blocks) xs more.0 more.1)

pub few_unnamed : (m : File) (d : ModuleData) → file_data m ≡ Some d → All HasFewUnnamed d.functions
few_unnamed m d e = All-from_recursion HasFewUnnamed d.functions (of_file (AllByRecursion HasFewUnnamed) (λ structs. functions_few structs 0 0 0) m d e)

-- so that a text says whole what lines mean, where it is of the form and names are distinct
pub meant_sayable : (m : File) (d : ModuleData) → file_data m ≡ Some d → IsForm d → HasDistinctNames d → IsSayableModule d
meant_sayable m d e form names = sayable_from d form names (few_unnamed m d e) (utf8_name m d e)
