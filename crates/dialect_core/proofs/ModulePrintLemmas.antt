-- The texts of blocks, functions and modules by the pieces that are printed.
use Rattle.std.proofs.Common.{◌≡◌, ◌<◌, ℕ, true, List, [], ◌∷◌, ◌++◌, Option, Some, None, All, is_some, length, slice_get, get_or, map, ap, sym, refl, ◌∙◌, arith}
use Rattle.std.proofs.Math.Path.{fun_ext}
use Rattle.std.specs.Prelude.{codes, unwrap_or, IfSome}
use Rattle.std.specs.List.{filter_map, flat_map, cons_option}
use Rattle.std.specs.Option.{option_map, option_map_or, option_and_then}
use Rattle.std.proofs.lemmas.Option.{none-some, same_Some, slice_get-get_or}
use Rattle.support.proofs.ListLaws.{appended_twice}
use Rattle.dialect_types.specs.declared.types.TypeHandle.{TypeHandle}
use Rattle.dialect_types.specs.declared.types.TypeKind.{TypeKind}
use Rattle.dialect_types.specs.Trees.{TypeTree, NamedStruct, type_at, type_trees, structs_of}
use Rattle.dialect_types.specs.Text.{type_text, struct_text}
use Rattle.dialect_core.specs.declared.numbers.OpRef.{OpRef}
use Rattle.dialect_core.specs.declared.numbers.BlockRef.{BlockRef}
use Rattle.dialect_core.specs.declared.linkage.LinkageAttr.{LinkageAttr}
use Rattle.dialect_core.specs.declared.ops.Value.{Value}
use Rattle.dialect_core.specs.declared.ops.Symbol.{Symbol}
use Rattle.dialect_core.specs.declared.ops.OpData.{OpData}
use Rattle.dialect_core.specs.declared.ops.BlockData.{BlockData}
use Rattle.dialect_core.specs.ContextData.{ContextData, llvm_name_at, symbol_at}
use Rattle.dialect_core.specs.Lists.{list_at}
use Rattle.dialect_core.specs.Data.{DialectModule, DialectBlock, op_at, block_of, block_in, func_of, func_in, name_at, held, data_of, IsTyped}
use Rattle.dialect_core.specs.Text.{option_text, op_text, label_text, block_text, body_text, linkage_text, llvm_name_text, func_head_text, func_text, module_text_by, module_text, value_number, block_number}
use Rattle.dialect_core.proofs.CountLemmas.{flat_filter}
use Rattle.dialect_core.proofs.NewBlockLemmas.{func}
use Rattle.dialect_core.proofs.KeepLemmas.{six_texts}
use Rattle.dialect_core.proofs.PrintLemmas.{between}

-- a function is there
pub symbol_there : (o : Option Symbol) → true ≡ is_some o → (s : Symbol) × (o ≡ Some s)
symbol_there None h = cc
symbol_there (Some s) h = (s, refl)

module _ (values : Value → Option ℕ) (blocks : BlockRef → Option ℕ) (c : ContextData) where
  abbrev ts : List TypeTree
  ts = type_trees c.types

  -- ---- blocks

  pub block_printed : (b : BlockRef) (label : Option (List ℕ)) (args : List TypeHandle) (ops : List OpRef) (start line end : List ℕ) → option_map (λ (x : BlockData). x.label) (slice_get c.blocks b.0) ≡ Some label → option_map (λ (x : BlockData). x.args) (slice_get c.blocks b.0) ≡ Some args → ops ≡ list_at c.lists b
      → line ≡ start ++ label_text values blocks b label (map (type_at (type_trees c.types)) args) → end ≡ line ++ flat_map (λ (o : OpRef). option_text (op_text values blocks) (op_at (type_trees c.types) c.ops o)) ops
      → end ≡ start ++ option_text (block_text values blocks) (block_in (type_trees c.types) c b)
  block_printed b label args ops start line end is_label is_args is_ops is_line is_end = by (slice_get c.blocks b.0) is_label is_args
    where
      by : (x : Option BlockData) → option_map (λ (x : BlockData). x.label) x ≡ Some label → option_map (λ (x : BlockData). x.args) x ≡ Some args → end ≡ start ++ option_text (block_text values blocks) (option_map (block_of (type_trees c.types) c b) x)
      by None l a = absurd (none-some label l)
      by (Some x) l a =
          appended_twice start line end (label_text values blocks b label (map (type_at (type_trees c.types)) args)) _ is_line is_end
          ∙ ap (λ (n : Option (List ℕ)). start ++ (label_text values blocks b n (map (type_at (type_trees c.types)) args) ++ flat_map (λ (o : OpRef). option_text (op_text values blocks) (op_at (type_trees c.types) c.ops o)) ops)) (sym (same_Some x.label label l))
          ∙ ap (λ (t : List TypeHandle). start ++ (label_text values blocks b x.label (map (type_at (type_trees c.types)) t) ++ flat_map (λ (o : OpRef). option_text (op_text values blocks) (op_at (type_trees c.types) c.ops o)) ops)) (sym (same_Some x.args args a))
          ∙ ap (λ (t : List ℕ). start ++ (label_text values blocks b x.label (map (type_at (type_trees c.types)) x.args) ++ t))
          (ap (flat_map (λ (o : OpRef). option_text (op_text values blocks) (op_at (type_trees c.types) c.ops o))) is_ops ∙ sym (flat_filter (op_at (type_trees c.types) c.ops) (op_text values blocks) (list_at c.lists b)))

  -- ---- bodies

  pub body_printed : (bs : List BlockRef) (start opened inner end : List ℕ) → ¬ (length bs ≡ 0) → All (λ (b : BlockRef). b.0 < length c.blocks) bs → opened ≡ start ++ codes " {\n" → inner ≡ opened ++ flat_map (λ (b : BlockRef). option_text (block_text values blocks) (block_in (type_trees c.types) c b)) bs → end ≡ inner ++ codes "  }\n"
      → end ≡ start ++ body_text values blocks (filter_map (block_in (type_trees c.types) c) bs)
  body_printed [] start opened inner end some within e1 e2 e3 = absurd (some refl)
  body_printed (b ∷ bs) start opened inner end some within e1 e2 e3 = by (slice_get c.blocks b.0) refl
    where
      by : (x : Option BlockData) → slice_get c.blocks b.0 ≡ x → end ≡ start ++ body_text values blocks (filter_map (block_in (type_trees c.types) c) (b ∷ bs))
      by None gone =
          let d : BlockData = record { holder = record { 0 = 0 }; label = None; args = [] } in
          absurd (none-some (get_or c.blocks b.0 d) (sym gone ∙ slice_get-get_or c.blocks b.0 d (within 0 b (omega arith))))
      by (Some x) there =
          let all : filter_map (block_in (type_trees c.types) c) (b ∷ bs) ≡ block_of (type_trees c.types) c b x ∷ filter_map (block_in (type_trees c.types) c) bs = ap (λ (o : Option BlockData). cons_option (option_map (block_of (type_trees c.types) c b) o) (filter_map (block_in (type_trees c.types) c) bs)) there in
          between start opened inner end (codes " {\n") _ (codes "  }\n") e1 e2 e3
          ∙ ap (λ (t : List ℕ). start ++ ((codes " {\n" ++ t) ++ codes "  }\n")) (sym (flat_filter (block_in (type_trees c.types) c) (block_text values blocks) (b ∷ bs)) ∙ ap (flat_map (block_text values blocks)) all)
          ∙ sym (ap (λ (ys : List DialectBlock). start ++ body_text values blocks ys) all)

  -- ---- functions

  pub func_printed : (op : OpRef) (name : List ℕ) (ty : TypeHandle) (linkage : LinkageAttr) (llvm_name : Option (List ℕ)) (bs : List BlockRef) (start head end : List ℕ) → name ≡ name_at c.ops op.0 → llvm_name ≡ llvm_name_at c.ops op → option_map (λ (s : Symbol). s.ty) (symbol_at c.ops op) ≡ Some ty → option_map (λ (s : Symbol). s.linkage) (symbol_at c.ops op) ≡ Some linkage
      → option_map (λ (x : OpData). x.blocks) (slice_get c.ops op.0) ≡ Some bs
      → head ≡ start ++ func_head_text name (type_at (type_trees c.types) ty) linkage llvm_name → end ≡ head ++ body_text values blocks (filter_map (block_in (type_trees c.types) c) bs)
      → end ≡ start ++ option_text (func_text values blocks) (func_in (type_trees c.types) c op)
  func_printed op name ty linkage llvm_name bs start head end is_name is_llvm_name is_ty is_linkage is_bs is_head is_end = appended_twice start head end (func_head_text name (type_at (type_trees c.types) ty) linkage llvm_name) (body_text values blocks (filter_map (block_in (type_trees c.types) c) bs)) is_head is_end ∙ by (slice_get c.ops op.0) refl is_llvm_name is_ty is_linkage is_bs
    where
      with_symbol : (x : OpData) (s : Option Symbol) → name ≡ unwrap_or x.name [] → llvm_name ≡ option_and_then (λ (s : Symbol). s.llvm_name) s → option_map (λ (s : Symbol). s.ty) s ≡ Some ty → option_map (λ (s : Symbol). s.linkage) s ≡ Some linkage → x.blocks ≡ bs
          → start ++ (func_head_text name (type_at (type_trees c.types) ty) linkage llvm_name ++ body_text values blocks (filter_map (block_in (type_trees c.types) c) bs)) ≡ start ++ option_text (func_text values blocks) (option_map (λ (s : Symbol). func (type_trees c.types) op x s (filter_map (block_in (type_trees c.types) c) x.blocks)) s)
      with_symbol x None n m t l b = absurd (none-some ty t)
      with_symbol x (Some s) n m t l b =
          ap (λ (name : List ℕ). start ++ (func_head_text name (type_at (type_trees c.types) ty) linkage llvm_name ++ body_text values blocks (filter_map (block_in (type_trees c.types) c) bs))) n
          ∙ ap (λ (ty : TypeHandle). start ++ (func_head_text (unwrap_or x.name []) (type_at (type_trees c.types) ty) linkage llvm_name ++ body_text values blocks (filter_map (block_in (type_trees c.types) c) bs))) (sym (same_Some s.ty ty t))
          ∙ ap (λ (linkage : LinkageAttr). start ++ (func_head_text (unwrap_or x.name []) (type_at (type_trees c.types) s.ty) linkage llvm_name ++ body_text values blocks (filter_map (block_in (type_trees c.types) c) bs))) (sym (same_Some s.linkage linkage l))
          ∙ ap (λ (n : Option (List ℕ)). start ++ (func_head_text (unwrap_or x.name []) (type_at (type_trees c.types) s.ty) s.linkage n ++ body_text values blocks (filter_map (block_in (type_trees c.types) c) bs))) m
          ∙ ap (λ (bs : List BlockRef). start ++ (func_head_text (unwrap_or x.name []) (type_at (type_trees c.types) s.ty) s.linkage s.llvm_name ++ body_text values blocks (filter_map (block_in (type_trees c.types) c) bs))) (sym b)

      by : (x : Option OpData) → slice_get c.ops op.0 ≡ x → llvm_name ≡ option_and_then (λ (s : Symbol). s.llvm_name) (option_and_then (λ (x : OpData). x.symbol) x) → option_map (λ (s : Symbol). s.ty) (option_and_then (λ (x : OpData). x.symbol) x) ≡ Some ty → option_map (λ (s : Symbol). s.linkage) (option_and_then (λ (x : OpData). x.symbol) x) ≡ Some linkage → option_map (λ (x : OpData). x.blocks) x ≡ Some bs
          → start ++ (func_head_text name (type_at (type_trees c.types) ty) linkage llvm_name ++ body_text values blocks (filter_map (block_in (type_trees c.types) c) bs)) ≡ start ++ option_text (func_text values blocks) (option_and_then (func_of (type_trees c.types) c op) x)
      by None at m t l b = absurd (none-some ty t)
      by (Some x) at m t l b = with_symbol x x.symbol (is_name ∙ ap (λ (o : Option OpData). option_map_or (λ (x : OpData). unwrap_or x.name []) o []) at) m t l (same_Some x.blocks bs b)

  -- ---- modules

  pub module_printed : (m : ℕ) (name : List ℕ) (ops : List OpRef) (ks : List TypeKind) (start o1 o2 o3 o4 o5 end : List ℕ) → name ≡ name_at c.ops m → ops ≡ held c m → ks ≡ c.types
      → o1 ≡ start ++ codes "builtin.module @" → o2 ≡ o1 ++ name → o3 ≡ o2 ++ codes " {\n" → o4 ≡ o3 ++ flat_map struct_text (structs_of ks)
      → o5 ≡ o4 ++ flat_map (λ (o : OpRef). option_text (func_text values blocks) (func_in (type_trees c.types) c o)) ops → end ≡ o5 ++ codes "}\n"
      → end ≡ start ++ module_text_by values blocks (structs_of c.types) (data_of c m)
  module_printed m name ops ks start o1 o2 o3 o4 o5 end is_name is_ops is_types e1 e2 e3 e4 e5 e6 =
      let named = e2 ∙ ap (λ (n : List ℕ). o1 ++ n) is_name in
      let structs = e4 ∙ ap (λ (x : List TypeKind). o3 ++ flat_map struct_text (structs_of x)) is_types in
      let funcs = e5 ∙ ap (λ (t : List ℕ). o4 ++ t) (ap (flat_map (λ (o : OpRef). option_text (func_text values blocks) (func_in (type_trees c.types) c o))) is_ops ∙ sym (flat_filter (func_in (type_trees c.types) c) (func_text values blocks) (held c m))) in
      six_texts start o1 o2 o3 o4 o5 end (codes "builtin.module @") (name_at c.ops m) (codes " {\n") (flat_map struct_text (structs_of c.types)) (flat_map (func_text values blocks) (data_of c m).functions) (codes "}\n") e1 named e3 structs funcs e6

-- the numbers are those of the module
pub module_text_is : (values : Value → Option ℕ) (blocks : BlockRef → Option ℕ) (structs : List NamedStruct) (d : DialectModule) → ((q : Value) → values q ≡ value_number d q) → ((q : BlockRef) → blocks q ≡ block_number d q)
    → module_text_by values blocks structs d ≡ module_text structs d
module_text_is values blocks structs d vs bs =
    ap (λ (v : Value → Option ℕ). module_text_by v blocks structs d) (fun_ext vs) ∙ ap (λ (b : BlockRef → Option ℕ). module_text_by (value_number d) b structs d) (fun_ext bs)

-- the type of a function is there
pub symbol_typed : (c : ContextData) (op : OpRef) (ty : TypeHandle) → IsTyped c → option_map (λ (s : Symbol). s.ty) (symbol_at c.ops op) ≡ Some ty → ty.0 < length c.types
symbol_typed c op ty typed h = by (slice_get c.ops op.0) refl h
  where
    with_symbol : (s : Option Symbol) → IfSome s (λ (s : Symbol). s.ty.0 < length c.types) → option_map (λ (s : Symbol). s.ty) s ≡ Some ty → ty.0 < length c.types
    with_symbol None w is = absurd (none-some ty is)
    with_symbol (Some s) w is = let e = ap (λ (t : TypeHandle). t.0) (same_Some s.ty ty is) in omega (arith, e, w)

    by : (x : Option OpData) → slice_get c.ops op.0 ≡ x → option_map (λ (s : Symbol). s.ty) (option_and_then (λ (x : OpData). x.symbol) x) ≡ Some ty → ty.0 < length c.types
    by None at is = absurd (none-some ty is)
    by (Some x) at is = with_symbol x.symbol (typed.ops op.0 x at).symbol is

-- the head of a function
pub head_printed : (name n word : List ℕ) (type : TypeTree) (linkage : LinkageAttr) (llvm_name : Option (List ℕ)) (start o1 o2 o3 o4 o5 o6 o7 end : List ℕ) → n ≡ name → word ≡ linkage_text linkage
    → o1 ≡ start ++ codes "  llvm.func @" → o2 ≡ o1 ++ n → o3 ≡ o2 ++ codes " : " → o4 ≡ o3 ++ type_text type → o5 ≡ o4 ++ codes " {linkage = " → o6 ≡ o5 ++ word → o7 ≡ o6 ++ llvm_name_text llvm_name → end ≡ o7 ++ codes "}"
    → end ≡ start ++ func_head_text name type linkage llvm_name
head_printed name n word type linkage llvm_name start o1 o2 o3 o4 o5 o6 o7 end is_name is_word e1 e2 e3 e4 e5 e6 e7 e8 =
    let named = e2 ∙ ap (λ (x : List ℕ). o1 ++ x) is_name in
    let linked = e6 ∙ ap (λ (x : List ℕ). o5 ++ x) is_word in
    let six = six_texts start o1 o2 o3 o4 o5 o6 (codes "  llvm.func @") name (codes " : ") (type_text type) (codes " {linkage = ") (linkage_text linkage) e1 named e3 e4 e5 linked in
    appended_twice start o7 end _ (codes "}") (appended_twice start o6 o7 _ (llvm_name_text llvm_name) six e7) e8
