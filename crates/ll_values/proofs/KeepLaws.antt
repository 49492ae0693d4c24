-- What values say stays as the module and the store grow.
use Rattle.std.proofs.Common.{◌≡◌, ◌<◌, ◌≤◌, ℕ, zero, suc, List, [], ◌∷◌, ◌++◌, Option, Some, None, length, length-append, map, slice_get, refl, ap, ◌∙◌, arith, All}
use Rattle.std.specs.Prelude.{IfSome}
use Rattle.std.specs.Option.{option_map}
use Rattle.std.proofs.lemmas.List.Elements.{All-weaker, All-nil}
use Rattle.support.proofs.ListLaws.{item_there}
use Rattle.llvm_core.specs.Module.{Module}
use Rattle.llvm_core.specs.declared.numbers.LLVMType.{LLVMType}
use Rattle.llvm_core.specs.Data.{trees_of}
use Rattle.ll_lines.specs.declared.lines.Param.{Param}
use Rattle.ll_lines.specs.declared.lines.Said.{Said}
use Rattle.ll_lines.specs.Views.{said_view, param_view, IsTypeIn, IsConstIn, IsSaidIn, IsInstIn}
use Rattle.ll_values.specs.declared.store.Store.{Store}
use Rattle.ll_values.specs.declared.value.Literal.{Literal}
use Rattle.ll_values.specs.declared.value.Literal.TheVariants as L
use Rattle.ll_values.specs.declared.value.Entry.{Entry}
use Rattle.ll_values.specs.declared.value.Piece.{Piece}
use Rattle.ll_values.specs.declared.value.Piece.TheVariants as P
use Rattle.ll_values.specs.declared.value.Fields.{Fields}
use Rattle.ll_values.specs.declared.value.Structure.{Structure}
use Rattle.ll_values.specs.declared.value.Definition.{Definition}
use Rattle.ll_values.specs.declared.value.Value.{Value}
use Rattle.ll_values.specs.declared.value.Value.TheVariants as V
use Rattle.ll_values.specs.Lists.{list_at}
use Rattle.ll_values.specs.Values as S
use Rattle.ll_values.specs.Values.{are_fields}
use Rattle.ll_values.specs.Views.{table_of, made_in, consts_at, literal_view, entry_view, entries_at, inst_at, part_view, body_at, types_in, params_at, fields_view, structure_view, structs_at, definition_view, functions_at, value_view, AreFieldsOf, IsLiteralIn, IsEntryIn, IsPieceIn, IsStructureIn, IsDefinitionIn, IsValueIn, IsStoreIn}
use Rattle.ll_values.specs.Growing.{Interns, KeepsLists, Keeps}
use Rattle.ll_values.proofs.ListLaws.{at_front}
use Rattle.ll_values.proofs.GrowLaws.{SaysSame, map_same, all_item, trees_same, const_same, consts_same, inst_same, param_same, typed_same, said_same, const_there, inst_there, typed_there, said_there}
use Rattle.ll_values.proofs.TableLaws.{table_kept, table_twice, table_longer, table_there, table_says}

-- the items of a list among lists
pub all_at : {T : Type 0} (Q : T → Type 0) (ls : List (List T)) (n : ℕ) → All (All Q) ls → n ≤ length ls → All Q (list_at ls n)
all_at Q ls zero h le = All-nil Q
all_at Q ls (suc n) h le = h n [] (omega (arith, le))

pub all_lists : {T : Type 0} (P Q : T → Type 0) → ((x : T) → P x → Q x) → (ls : List (List T)) → All (All P) ls → All (All Q) ls
all_lists P Q f ls h = All-weaker (All P) (All Q) (λ xs k. All-weaker P Q f xs k) ls h

pub lists_kept : {T : Type 0} (ls : List (List T)) → KeepsLists ls ls
lists_kept ls = record { count = omega arith; at = λ n h. refl }

pub lists_pushed : {T : Type 0} (old new : List (List T)) (xs : List T) → new ≡ old ++ xs ∷ [] → KeepsLists old new
lists_pushed old new xs e = record { count = omega (arith, ap length e, length-append old (xs ∷ [])); at = λ n h. rw e (at_front old (xs ∷ []) n h) }

lists_twice : {T : Type 0} (a b c : List (List T)) → KeepsLists a b → KeepsLists b c → KeepsLists a c
lists_twice a b c g h = record { count = omega (arith, g.count, h.count); at = λ n le. h.at n (omega (arith, g.count, le)) ∙ g.at n le }

pub store_kept : (s : Store) → Keeps s s
store_kept s = record { table = table_kept s.table.items; consts = lists_kept s.consts; inst_count = omega arith; insts = λ n h. refl; entries = lists_kept s.entries; bodies = lists_kept s.bodies; types = lists_kept s.types; params = lists_kept s.params; structs = lists_kept s.structs; functions = lists_kept s.functions }

pub kept_twice : (a b c : Store) → Keeps a b → Keeps b c → Keeps a c
kept_twice a b c g h = record {
  table = table_twice a.table.items b.table.items c.table.items g.table h.table;
  consts = lists_twice a.consts b.consts c.consts g.consts h.consts;
  inst_count = omega (arith, g.inst_count, h.inst_count);
  insts = λ n lt. h.insts n (omega (arith, g.inst_count, lt)) ∙ g.insts n lt;
  entries = lists_twice a.entries b.entries c.entries g.entries h.entries;
  bodies = lists_twice a.bodies b.bodies c.bodies g.bodies h.bodies;
  types = lists_twice a.types b.types c.types g.types h.types;
  params = lists_twice a.params b.params c.params g.params h.params;
  structs = lists_twice a.structs b.structs c.structs g.structs h.structs;
  functions = lists_twice a.functions b.functions c.functions g.functions h.functions;
}

-- the fields of structs stay right as types and lists of them are added
module _ (m n : Module) (old new : List (List LLVMType)) (g : Interns m n) (k : KeepsLists old new) (types : All (All (IsTypeIn m)) old) where
  fields_there : (b : Fields) → AreFieldsOf m old b → AreFieldsOf n new b
  fields_there b h = record {
    types = omega (arith, k.count, h.types);
    fit = rw (k.at b.types h.types, trees_same m n g (list_at old b.types) (all_at (IsTypeIn m) old b.types types h.types)) h.fit;
  }

  pub optional_there : (o : Option Fields) → IfSome o (AreFieldsOf m old) → IfSome o (AreFieldsOf n new)
  optional_there None h = h
  optional_there (Some b) h = fields_there b h

-- so do literals
pub literal_there : (m n : Module) (s t : Store) → Interns m n → Keeps s t → (l : Literal) → IsLiteralIn m s l → IsLiteralIn n t l
literal_there m n s t g k (L.Local i) h = tt
literal_there m n s t g k (L.Const i) h = tt
literal_there m n s t g k L.Null h = tt
literal_there m n s t g k (L.Chars i) h = tt
literal_there m n s t g k (L.Listed brackets i) h = omega (arith, k.consts.count, h)
literal_there m n s t g k (L.Splat c) h = const_there m n g (made_in s) (made_in t) (table_longer s.table.items t.table.items k.table) c h

-- a store stays right as types and constants are added
pub store_there : (m n : Module) (s : Store) → Interns m n → IsStoreIn m s → IsStoreIn n s
store_there m n s g st = record {
  sound = g.sound;
  table = table_there m n g s.table.items st.table;
  consts = all_lists (IsConstIn m (made_in s)) (IsConstIn n (made_in s)) (const_there m n g (made_in s) (made_in s) (omega arith)) s.consts st.consts;
  insts = All-weaker (IsInstIn m (made_in s)) (IsInstIn n (made_in s)) (inst_there m n g (made_in s) (made_in s) (omega arith)) s.insts.items st.insts;
  entries = all_lists (IsEntryIn m s) (IsEntryIn n s) (λ e h. literal_there m n s s g (store_kept s) e.literal h) s.entries st.entries;
  bodies = all_lists (IsPieceIn m s) (IsPieceIn n s) piece s.bodies st.bodies;
  types = all_lists (IsTypeIn m) (IsTypeIn n) (λ t h. omega (arith, g.type_count, h)) s.types st.types;
  params = all_lists (λ (p : Param). IsTypeIn m p.ty) (λ (p : Param). IsTypeIn n p.ty) (λ p h. omega (arith, g.type_count, h)) s.params st.params;
  structs = all_lists (IsStructureIn m s) (IsStructureIn n s) (λ x h. optional_there m n s.types s.types g (lists_kept s.types) st.types x.body h) s.structs st.structs;
  functions = all_lists (IsDefinitionIn m s) (IsDefinitionIn n s) (λ d h. ((omega (arith, g.type_count, h.0.0), h.0.1), h.1)) s.functions st.functions;
}
  where
    piece : (p : Piece) → IsPieceIn m s p → IsPieceIn n s p
    piece (P.Label k) h = tt
    piece (P.Does name i) h = h

-- what a table says stays
pub says_same : (bytes : List ℕ) (m n : Module) (s t : Store) → Interns m n → Keeps s t → IsStoreIn m s → SaysSame (made_in s) (table_of bytes (trees_of m) s) (table_of bytes (trees_of n) t)
says_same bytes m n s t g k st = table_says bytes m n g s.table.items t.table.items k.table st.table

module _ (bytes : List ℕ) (m n : Module) (s t : Store) (g : Interns m n) (k : Keeps s t) (st : IsStoreIn m s) where
  same_says : SaysSame (made_in s) (table_of bytes (trees_of m) s) (table_of bytes (trees_of n) t)
  same_says = says_same bytes m n s t g k st

  pub consts_at_same : (i : ℕ) → i ≤ length s.consts → consts_at bytes (trees_of n) t i ≡ consts_at bytes (trees_of m) s i
  consts_at_same i h =
      rw (k.consts.at i h) (consts_same bytes m n g (made_in s) (table_of bytes (trees_of m) s) (table_of bytes (trees_of n) t) same_says (list_at s.consts i) (all_at (IsConstIn m (made_in s)) s.consts i st.consts h))

  pub literal_same : (l : Literal) → IsLiteralIn m s l → literal_view bytes (trees_of n) t l ≡ literal_view bytes (trees_of m) s l
  literal_same (L.Local i) h = refl
  literal_same (L.Const i) h = refl
  literal_same L.Null h = refl
  literal_same (L.Chars i) h = refl
  literal_same (L.Listed brackets i) h = ap (S.ListedL brackets) (consts_at_same i h)
  literal_same (L.Splat c) h = ap S.SplatL (const_same bytes m n g (made_in s) (table_of bytes (trees_of m) s) (table_of bytes (trees_of n) t) same_says c h)

  pub entry_same : (e : Entry) → IsEntryIn m s e → entry_view bytes (trees_of n) t e ≡ entry_view bytes (trees_of m) s e
  entry_same e h = rw (literal_same e.literal h) refl

  pub entries_at_same : (i : ℕ) → i ≤ length s.entries → entries_at bytes (trees_of n) t i ≡ entries_at bytes (trees_of m) s i
  entries_at_same i h = rw (k.entries.at i h) (map_same (IsEntryIn m s) (entry_view bytes (trees_of n) t) (entry_view bytes (trees_of m) s) entry_same (list_at s.entries i) (all_at (IsEntryIn m s) s.entries i st.entries h))

  pub said_kept : (x : Said) → IsSaidIn m (made_in s) x → said_view bytes (trees_of n) (table_of bytes (trees_of n) t) x ≡ said_view bytes (trees_of m) (table_of bytes (trees_of m) s) x
  said_kept x h = said_same bytes m n g (made_in s) (table_of bytes (trees_of m) s) (table_of bytes (trees_of n) t) same_says x h

  pub said_stays : (x : Said) → IsSaidIn m (made_in s) x → IsSaidIn n (made_in t) x
  said_stays x h = said_there m n g (made_in s) (made_in t) (table_longer s.table.items t.table.items k.table) x h

  pub inst_at_same : (i : ℕ) → i < length s.insts.items → inst_at bytes (trees_of n) t i ≡ inst_at bytes (trees_of m) s i
  inst_at_same i h =
      let x = item_there s.insts.items i h in
      let new : slice_get t.insts.items i ≡ Some x.0 = k.insts i h ∙ x.1 in
      rw (new, x.1) (inst_same bytes m n g (made_in s) (table_of bytes (trees_of m) s) (table_of bytes (trees_of n) t) same_says x.0 (all_item (IsInstIn m (made_in s)) s.insts.items i x.0 st.insts x.1))

  pub piece_same : (p : Piece) → IsPieceIn m s p → part_view bytes (trees_of n) t p ≡ part_view bytes (trees_of m) s p
  piece_same (P.Label l) h = refl
  piece_same (P.Does name i) h = rw (inst_at_same i h) refl

  pub body_same : (i : ℕ) → i ≤ length s.bodies → body_at bytes (trees_of n) t i ≡ body_at bytes (trees_of m) s i
  body_same i h = rw (k.bodies.at i h) (map_same (IsPieceIn m s) (part_view bytes (trees_of n) t) (part_view bytes (trees_of m) s) piece_same (list_at s.bodies i) (all_at (IsPieceIn m s) s.bodies i st.bodies h))

  pub types_same : (i : ℕ) → i ≤ length s.types → types_in bytes (trees_of n) t i ≡ types_in bytes (trees_of m) s i
  types_same i h = rw (k.types.at i h) (trees_same m n g (list_at s.types i) (all_at (IsTypeIn m) s.types i st.types h))

  pub params_same : (i : ℕ) → i ≤ length s.params → params_at bytes (trees_of n) t i ≡ params_at bytes (trees_of m) s i
  params_same i h =
      let Q : Param → Type 0 = λ (p : Param). IsTypeIn m p.ty in
      rw (k.params.at i h) (map_same Q (param_view bytes (trees_of n)) (param_view bytes (trees_of m)) (param_same bytes m n g) (list_at s.params i) (all_at Q s.params i st.params h))

  fields_same : (b : Fields) → AreFieldsOf m s.types b → fields_view (trees_of n) t b ≡ fields_view (trees_of m) s b
  fields_same b h = rw (k.types.at b.types h.types, trees_same m n g (list_at s.types b.types) (all_at (IsTypeIn m) s.types b.types st.types h.types)) refl

  optional_same : (o : Option Fields) → IfSome o (AreFieldsOf m s.types) → option_map (fields_view (trees_of n) t) o ≡ option_map (fields_view (trees_of m) s) o
  optional_same None h = refl
  optional_same (Some b) h = ap Some (fields_same b h)

  structure_same : (x : Structure) → IsStructureIn m s x → structure_view bytes (trees_of n) t x ≡ structure_view bytes (trees_of m) s x
  structure_same x h = rw (optional_same x.body h) refl

  pub structs_same : (i : ℕ) → i ≤ length s.structs → structs_at bytes (trees_of n) t i ≡ structs_at bytes (trees_of m) s i
  structs_same i h =
      rw (k.structs.at i h) (map_same (IsStructureIn m s) (structure_view bytes (trees_of n) t) (structure_view bytes (trees_of m) s) structure_same (list_at s.structs i) (all_at (IsStructureIn m s) s.structs i st.structs h))

  pub definition_same : (d : Definition) → IsDefinitionIn m s d → definition_view bytes (trees_of n) t d ≡ definition_view bytes (trees_of m) s d
  definition_same d h = rw (g.types d.head.result h.0.0, params_same d.head.params h.0.1, body_same d.body h.1) refl

  pub functions_same : (i : ℕ) → i ≤ length s.functions → functions_at bytes (trees_of n) t i ≡ functions_at bytes (trees_of m) s i
  functions_same i h =
      rw (k.functions.at i h) (map_same (IsDefinitionIn m s) (definition_view bytes (trees_of n) t) (definition_view bytes (trees_of m) s) definition_same (list_at s.functions i) (all_at (IsDefinitionIn m s) s.functions i st.functions h))

  pub value_same : (v : Value) → IsValueIn m s v → value_view bytes (trees_of n) t v ≡ value_view bytes (trees_of m) s v
  value_same V.Nothing h = refl
  value_same (V.Text l) h = refl
  value_same (V.Flag b) h = refl
  value_same (V.Wraps flags) h = refl
  value_same (V.Type ty) h = rw (g.types ty h) refl
  value_same (V.Types i) h = ap S.TypesV (types_same i h)
  value_same (V.Literal l) h = ap S.LiteralV (literal_same l h)
  value_same (V.Consts i) h = ap S.ConstsV (consts_at_same i h)
  value_same (V.Braced l i) h = rw (literal_same l h.0, consts_at_same i h.1) refl
  value_same (V.Typed x) h = ap S.TypedV (typed_same bytes m n g (made_in s) (table_of bytes (trees_of m) s) (table_of bytes (trees_of n) t) same_says x h)
  value_same (V.Space i) h = refl
  value_same (V.Align align) h = refl
  value_same (V.Pair ty a b) h = rw (g.types ty h.0, said_kept a h.1, said_kept b h.2) refl
  value_same (V.Entry e) h = ap S.EntryV (entry_same e h)
  value_same (V.Entries i) h = ap S.EntriesV (entries_at_same i h)
  value_same (V.Inst i) h = rw (inst_at_same i h) refl
  value_same (V.Part p) h = ap S.PartV (piece_same p h)
  value_same (V.Body i) h = ap S.BodyV (body_same i h)
  value_same (V.Param p) h = ap S.ParamV (param_same bytes m n g p h)
  value_same (V.Params i) h = ap S.ParamsV (params_same i h)
  value_same (V.Head d) h = rw (g.types d.result h.0, params_same d.params h.1) refl
  value_same (V.Source l) h = refl
  value_same (V.Function d) h = ap S.FunctionV (definition_same d h)
  value_same (V.Fields b) h = ap S.FieldsV (optional_same b h)
  value_same (V.Struct x) h = ap S.StructV (structure_same x h)
  value_same (V.File name j i) h = rw (structs_same j h.0, functions_same i h.1) refl

  piece_there : (p : Piece) → IsPieceIn m s p → IsPieceIn n t p
  piece_there (P.Label l) h = tt
  piece_there (P.Does name i) h = omega (arith, k.inst_count, h)

  definition_there : (d : Definition) → IsDefinitionIn m s d → IsDefinitionIn n t d
  definition_there d h = ((omega (arith, g.type_count, h.0.0), omega (arith, k.params.count, h.0.1)), omega (arith, k.bodies.count, h.1))

  pub value_there : (v : Value) → IsValueIn m s v → IsValueIn n t v
  value_there V.Nothing h = tt
  value_there (V.Text l) h = tt
  value_there (V.Flag b) h = tt
  value_there (V.Wraps flags) h = tt
  value_there (V.Type ty) h = omega (arith, g.type_count, h)
  value_there (V.Types i) h = omega (arith, k.types.count, h)
  value_there (V.Literal l) h = literal_there m n s t g k l h
  value_there (V.Consts i) h = omega (arith, k.consts.count, h)
  value_there (V.Braced l i) h = (literal_there m n s t g k l h.0, omega (arith, k.consts.count, h.1))
  value_there (V.Typed x) h = typed_there m n g (made_in s) (made_in t) (table_longer s.table.items t.table.items k.table) x h
  value_there (V.Space i) h = tt
  value_there (V.Align align) h = tt
  value_there (V.Pair ty a b) h = (omega (arith, g.type_count, h.0), said_stays a h.1, said_stays b h.2)
  value_there (V.Entry e) h = literal_there m n s t g k e.literal h
  value_there (V.Entries i) h = omega (arith, k.entries.count, h)
  value_there (V.Inst i) h = omega (arith, k.inst_count, h)
  value_there (V.Part p) h = piece_there p h
  value_there (V.Body i) h = omega (arith, k.bodies.count, h)
  value_there (V.Param p) h = omega (arith, g.type_count, h)
  value_there (V.Params i) h = omega (arith, k.params.count, h)
  value_there (V.Head d) h = (omega (arith, g.type_count, h.0), omega (arith, k.params.count, h.1))
  value_there (V.Source l) h = tt
  value_there (V.Function d) h = definition_there d h
  value_there (V.Fields b) h = optional_there m n s.types t.types g k.types st.types b h
  value_there (V.Struct x) h = optional_there m n s.types t.types g k.types st.types x.body h
  value_there (V.File name j i) h = (omega (arith, k.structs.count, h.0), omega (arith, k.functions.count, h.1))

  pub values_same : (vs : List Value) → All (IsValueIn m s) vs → map (value_view bytes (trees_of n) t) vs ≡ map (value_view bytes (trees_of m) s) vs
  values_same vs h = map_same (IsValueIn m s) (value_view bytes (trees_of n) t) (value_view bytes (trees_of m) s) value_same vs h

  pub values_there : (vs : List Value) → All (IsValueIn m s) vs → All (IsValueIn n t) vs
  values_there vs h = All-weaker (IsValueIn m s) (IsValueIn n t) value_there vs h
