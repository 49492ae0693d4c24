-- A module that a function is added to.
use Rattle.std.proofs.Common.{◌≡◌, ◌<◌, ◌+◌, ℕ, suc, List, [], ◌∷◌, ◌++◌, Some, All, map, drop, length, length-append, slice_get, slice_set, refl, ap, sym, ◌∙◌, subst, arith}
use Rattle.std.specs.Option.{option_map, option_map_or}
use Rattle.std.proofs.lemmas.List.{append_assoc}
use Rattle.support.proofs.ListLaws.{slice_get-kept, length-slice_set}
use Rattle.llvm_core.specs.declared.numbers.LLVMType.{LLVMType}
use Rattle.llvm_core.specs.declared.numbers.LLVMFunction.{LLVMFunction}
use Rattle.llvm_core.specs.declared.types.LLVMTypeKind.{LLVMTypeKind}
use Rattle.llvm_core.specs.declared.code.FunctionData.{FunctionData}
use Rattle.llvm_core.specs.Module.{Module}
use Rattle.llvm_core.specs.Code.{code_of, with_code, with_param_name, param_names}
use Rattle.llvm_core.specs.Data.{ModuleData, data_of, with_param}
use Rattle.std.specs.List.{enumerate_from}
use Rattle.std.proofs.Common.{if◌then◌else◌, nat_eq, zero}
use Rattle.std.proofs.lemmas.List.{map-append}
use Rattle.std.proofs.lemmas.List.Elements.{All-nil, All-cons, All-head, All-tail}
use Rattle.llvm_core.specs.declared.code.BlockData.{BlockData}
use Rattle.llvm_core.specs.declared.code.InstData.{InstData}
use Rattle.llvm_core.specs.Data as D
use Rattle.llvm_core.specs.Data.{Trees, ThenType, type_at, types_at, trees_of, function_of}
use Rattle.std.proofs.Common.{Option, None, false}
use Rattle.std.proofs.lemmas.List.{length-map}
use Rattle.support.proofs.ListLaws.{slice_get-push}
use Rattle.kinds.specs.Types.{TypeTree, FunctionType}
use Rattle.llvm_core.specs.declared.types.LLVMTypeKind.TheVariants as T
use Rattle.llvm_core.specs.Code.{with_function}
use Rattle.llvm_core.specs.Parts.{type_params, kind_params}
use Rattle.llvm_core.specs.Sound.{IsModule}
use Rattle.llvm_core.proofs.DataLemmas.{function_tree_of}
use Rattle.ll_lines.specs.declared.lines.Function as code_function
use Rattle.ll_lines.specs.Lines as L
use Rattle.ll_bodies.specs.AddingViews.{GivesBody, data_over}
use Rattle.ll_literals.specs.Names.{symbol_name}
use Rattle.ll_lines.specs.declared.lines.ConstLine.{ConstLine}
use Rattle.ll_bodies.specs.FunctionViews.{IsNext}
use Rattle.llvm_core.specs.Bodies.{with_blocks}
use Rattle.llvm_core.proofs.CallLemmas.{at_number, at_other}
use Rattle.ll_lines.specs.Views.{param_view}
use Rattle.ll_bodies.specs.Meaning.{types_of}
use Rattle.llvm_core.proofs.ChangeLemmas.{slice_get-changed}
use Rattle.ll_lines.specs.declared.lines.Param as code_param
use Rattle.ll_bodies.specs.AddingViews.{AddsTypes, Renames, names_in, with_params, function_with}
use Rattle.ll_lines.specs.Views.{text_of}
use Rattle.ll_bodies.specs.Scopes.{local_key, written_name}
use Rattle.ll_bodies.proofs.BlockLaws.{drop_at}

pub adds_kept : (a b : Module) → AddsTypes a b → (i : ℕ) (k : LLVMTypeKind) → slice_get a.types i ≡ Some k → slice_get b.types i ≡ Some k
adds_kept a b g i k h = ap (λ ts. slice_get ts i) g.types ∙ slice_get-kept a.types g.more i k h

-- ---- names of parameters

pub renames_one : (f : LLVMFunction) (a b c : Module) (place : ℕ) (name : List ℕ) → Renames f a b → c ≡ with_code b (with_param_name (code_of b) f place name) → Renames f a c
renames_one f a b c place name r e = record {
  rest = e ∙ ap (λ (m : Module). record m { functions = (with_code b (with_param_name (code_of b) f place name)).functions }) r.rest ∙ ap (λ (m : Module). record a { functions = m.functions }) (sym e);
  function = λ x at.
      let y = r.function x at in
      let change : FunctionData → FunctionData = λ z. record z { params = slice_set z.params place name } in
      (change y.0, ap (λ (m : Module). slice_get m.functions f.0) e ∙ slice_get-changed change f.0 b.functions ∙ ap (option_map change) y.1, y.2, length-slice_set y.0.params place name ∙ y.3);
}

-- there are as many parameters as before
pub renamed_within : (f : LLVMFunction) (a b : Module) (n : ℕ) → Renames f a b → n < length (param_names a.functions f) → n < length (param_names b.functions f)
renamed_within f a b n r lt = by (slice_get a.functions f.0) refl lt
  where
    by : (o : Option FunctionData) → slice_get a.functions f.0 ≡ o → n < length (option_map_or (λ (x : FunctionData). x.params) o []) → n < length (param_names b.functions f)
    by None e lt = absurd (omega arith)
    by (Some x) e lt = let y = r.function x e in rw y.1 (omega (arith, y.3, lt))

-- the names from a place on
pub names_at : (bytes : List ℕ) (d : ModuleData) (f : ℕ) (ps : List code_param.Param) (at : ℕ) (p : code_param.Param) → slice_get ps at ≡ Some p
    → with_params d f at (names_in bytes (drop at ps)) ≡ with_params (with_param d f at (written_name local_key (option_map (text_of bytes) p.name))) f (at + 1) (names_in bytes (drop (at + 1) ps))
names_at bytes d f ps at p h =
    let e : suc at ≡ at + 1 = omega arith in
    ap (λ (qs : List code_param.Param). with_params d f at (names_in bytes qs)) (drop_at ps at p h)
    ∙ ap (λ (k : ℕ). with_params (with_param d f at (written_name local_key (option_map (text_of bytes) p.name))) f (at + 1) (names_in bytes (drop k ps))) e

-- ---- the type of the function

pub types_there : (n : ℕ) (ps : List code_param.Param) → All (λ (p : code_param.Param). p.ty.0 < n) ps → All (λ (t : LLVMType). t.0 < n) (map (λ (p : code_param.Param). p.ty) ps)
types_there n [] h = All-nil (λ (t : LLVMType). t.0 < n)
types_there n (p ∷ ps) h = All-cons (λ (t : LLVMType). t.0 < n) p.ty (map (λ (p : code_param.Param). p.ty) ps) (All-head (λ (p : code_param.Param). p.ty.0 < n) p ps h) (types_there n ps (All-tail (λ (p : code_param.Param). p.ty.0 < n) p ps h))

pub types_said : (bytes : List ℕ) (t : Trees) (ps : List code_param.Param) → types_at t.types (map (λ (p : code_param.Param). p.ty) ps) ≡ types_of (map (param_view bytes t) ps)
types_said bytes t [] = refl
types_said bytes t (p ∷ ps) = ap (λ ts. ThenType (type_at t.types p.ty) ts) (types_said bytes t ps)

-- ---- a function behind those that are there

-- the numbers of functions are below their count
numbers_from : (t : Trees) (bs : List BlockData) (is : List InstData) (n end : ℕ) (fs : List FunctionData) → n + length fs ≡ end → All (λ (x : D.Function). x.number < end) (map (function_of t bs is) (enumerate_from n fs))
numbers_from t bs is n end [] e = All-nil (λ (x : D.Function). x.number < end)
numbers_from t bs is n end (f ∷ fs) e =
    All-cons (λ (x : D.Function). x.number < end) (function_of t bs is (n, f)) (map (function_of t bs is) (enumerate_from (n + 1) fs)) (omega (arith, e)) (numbers_from t bs is (n + 1) end fs (omega (arith, e)))

pub numbers_below : (m : Module) → All (λ (x : D.Function). x.number < length m.functions) (data_of m).functions
numbers_below m = numbers_from (trees_of m) m.blocks m.insts 0 (length m.functions) m.functions (omega arith)

module _ (f : ℕ) (h : D.Function → D.Function) where
  abbrev changed : D.Function → D.Function
  changed x = if nat_eq x.number f then h x else x

  others_stay : (fs : List D.Function) → All (λ (x : D.Function). x.number < f) fs → map changed fs ≡ fs
  others_stay [] g = refl
  others_stay (x ∷ fs) g =
      let lt = All-head (λ (x : D.Function). x.number < f) x fs g in
      let one : changed x ≡ x = at_other h x x.number f (omega (arith, lt)) in
      let rest = others_stay fs (All-tail (λ (x : D.Function). x.number < f) x fs g) in
      ap (λ (y : D.Function). y ∷ map changed fs) one ∙ ap (λ (ys : List D.Function). x ∷ ys) rest

  -- the last of functions is changed
  pub last_changed : (fs : List D.Function) (x : D.Function) → All (λ (x : D.Function). x.number < f) fs → x.number ≡ f → map changed (fs ++ x ∷ []) ≡ fs ++ h x ∷ []
  last_changed fs x g e =
      map-append changed fs (x ∷ []) ∙ ap (λ (ys : List D.Function). ys ++ changed x ∷ []) (others_stay fs g) ∙ ap (λ (y : D.Function). fs ++ y ∷ []) (at_number h x x.number f e)

set_at : (done : List (List ℕ)) (old : List ℕ) (rest : List (List ℕ)) (place : ℕ) (new : List ℕ) → place ≡ length done → slice_set (done ++ old ∷ rest) place new ≡ (done ++ new ∷ []) ++ rest
set_at [] old rest zero new e = refl
set_at [] old rest (suc place) new e = absurd (omega (arith, e))
set_at (d ∷ done) old rest zero new e = absurd (omega (arith, e))
set_at (d ∷ done) old rest (suc place) new e = ap (λ ys. d ∷ ys) (set_at done old rest place new (omega (arith, e)))

module _ (d : D.ModuleData) (x : D.Function) (below : All (λ (y : D.Function). y.number < x.number) d.functions) where
  abbrev named : List (List ℕ) → D.ModuleData
  named names = D.with_function d (record x { params = names })

  name_one : (done : List (List ℕ)) (old : List ℕ) (rest : List (List ℕ)) (place : ℕ) (new : List ℕ) → place ≡ length done → with_param (named (done ++ old ∷ rest)) x.number place new ≡ named ((done ++ new ∷ []) ++ rest)
  name_one done old rest place new e =
      ap (λ (fs : List D.Function). record d { functions = fs }) (last_changed x.number (λ (y : D.Function). record y { params = slice_set y.params place new }) d.functions (record x { params = done ++ old ∷ rest }) below refl)
      ∙ ap (λ (ns : List (List ℕ)). named ns) (set_at done old rest place new e)

  -- all its parameters get their names
  pub name_all : (done rest names : List (List ℕ)) (place : ℕ) → place ≡ length done → length rest ≡ length names → with_params (named (done ++ rest)) x.number place names ≡ named (done ++ names)
  name_all done [] [] place e k = refl
  name_all done [] (n ∷ names) place e k = absurd (omega (arith, k))
  name_all done (r ∷ rest) [] place e k = absurd (omega (arith, k))
  name_all done (r ∷ rest) (n ∷ names) place e k =
      let size = length-append done (n ∷ []) in
      ap (λ (z : D.ModuleData). with_params z x.number (place + 1) names) (name_one done r rest place n e)
      ∙ name_all (done ++ n ∷ []) rest names (place + 1) (omega (arith, e, size)) (omega (arith, k)) ∙ ap (λ (ns : List (List ℕ)). named ns) (append_assoc done (n ∷ []) names)

  -- and it gets its blocks
  pub body_added : (blocks : List D.Block) → x.blocks ≡ [] → with_blocks (D.with_function d x) x.number blocks ≡ D.with_function d (record x { blocks = blocks })
  body_added blocks none =
      ap (λ (fs : List D.Function). record d { functions = fs }) (last_changed x.number (λ (y : D.Function). record y { blocks = y.blocks ++ blocks }) d.functions x below refl)
      ∙ ap (λ (bs : List D.Block). D.with_function d (record x { blocks = bs ++ blocks })) none

-- ---- a function without blocks

names_said : (bytes : List ℕ) (t : Trees) (ps : List code_param.Param) → names_in bytes ps ≡ map (λ (p : L.Param). written_name local_key p.name) (map (param_view bytes t) ps)
names_said bytes t [] = refl
names_said bytes t (p ∷ ps) = ap (λ ns. written_name local_key (option_map (text_of bytes) p.name) ∷ ns) (names_said bytes t ps)

blank_count : (ts : List LLVMType) (bytes : List ℕ) (ps : List code_param.Param) → ts ≡ map (λ (p : code_param.Param). p.ty) ps → length (map (λ (t : LLVMType). let z : List ℕ = [] in z) ts) ≡ length (names_in bytes ps)
blank_count ts bytes ps e =
    length-map ts (λ (t : LLVMType). let z : List ℕ = [] in z) ∙ ap (λ (us : List LLVMType). length us) e ∙ length-map ps (λ (p : code_param.Param). p.ty)
    ∙ sym (length-map ps (λ (p : code_param.Param). written_name local_key (option_map (text_of bytes) p.name)))

pub params_of : (m : Module) (ty result : LLVMType) (ts : List LLVMType) → slice_get m.types ty.0 ≡ Some (T.Function result ts false) → type_params m.types ty ≡ ts
params_of m ty result ts h = ap (λ (o : Option LLVMTypeKind). option_map_or kind_params o []) h

pub declared_data : (m : Module) (d e : ModuleData) (bytes : List ℕ) (f : ℕ) (name : List ℕ) (ty : LLVMType) (x : code_function.Function) → IsModule m → f ≡ length m.functions
    → slice_get m.types ty.0 ≡ Some (T.Function x.result (map (λ (p : code_param.Param). p.ty) x.params.items) false)
    → d ≡ D.with_function (data_of m) (record { number = f; name = name; type = type_at (trees_of m).types ty; space = 0; params = map (λ (t : LLVMType). let z : List ℕ = [] in z) (type_params m.types ty); blocks = [] })
    → e ≡ with_params d f 0 (names_in bytes x.params.items) → e ≡ D.with_function (data_of m) (function_with bytes (trees_of m) f name x [])
declared_data m d e bytes f name ty x s number kind h g =
    let ts = map (λ (p : code_param.Param). p.ty) x.params.items in
    let blank = map (λ (t : LLVMType). let z : List ℕ = [] in z) (type_params m.types ty) in
    let first : D.Function = record { number = f; name = name; type = type_at (trees_of m).types ty; space = 0; params = blank; blocks = [] } in
    let below = subst (λ (k : ℕ). All (λ (y : D.Function). y.number < k) (data_of m).functions) (sym number) (numbers_below m) in
    let size = blank_count (type_params m.types ty) bytes x.params.items (params_of m ty x.result ts kind) in
    let type = function_tree_of m ty x.result ts false s kind ∙ ap (λ us. FunctionType (type_at (trees_of m).types x.result) us false) (types_said bytes (trees_of m) x.params.items) in
    g ∙ ap (λ (z : ModuleData). with_params z f 0 (names_in bytes x.params.items)) h
    ∙ name_all (data_of m) first below [] blank (names_in bytes x.params.items) 0 refl size
    ∙ ap (λ (u : TypeTree). D.with_function (data_of m) (record { number = f; name = name; type = u; space = 0; params = names_in bytes x.params.items; blocks = [] })) type
    ∙ ap (λ (ns : List (List ℕ)). D.with_function (data_of m) (record { number = f; name = name; type = FunctionType (type_at (trees_of m).types x.result) (types_of (map (param_view bytes (trees_of m)) x.params.items)) false; space = 0; params = ns; blocks = [] })) (names_said bytes (trees_of m) x.params.items)

-- what the function is in the module, before its parameters have names
pub there_blank : (m n : Module) (f : LLVMFunction) (name : List ℕ) (ty result : LLVMType) (ps : List code_param.Param) → f.0 ≡ length m.functions → slice_get m.types ty.0 ≡ Some (T.Function result (map (λ (p : code_param.Param). p.ty) ps) false)
    → n ≡ with_code m (with_function (code_of m) (record { name = name; ty = ty; space = 0; params = map (λ (t : LLVMType). let z : List ℕ = [] in z) (type_params m.types ty); blocks = [] }))
    → (x : FunctionData) × (slice_get n.functions f.0 ≡ Some x) × (x.ty ≡ ty) × (length x.params ≡ length ps)
there_blank m n f name ty result ps number kind is =
    let blank = map (λ (t : LLVMType). let z : List ℕ = [] in z) (type_params m.types ty) in
    let x : FunctionData = record { name = name; ty = ty; space = 0; params = blank; blocks = [] } in (
      x,
      ap (λ (k : Module). slice_get k.functions f.0) is ∙ slice_get-push m.functions x f.0 number,
      refl,
      length-map (type_params m.types ty) (λ (t : LLVMType). let z : List ℕ = [] in z) ∙ ap (λ (us : List LLVMType). length us) (params_of m ty result (map (λ (p : code_param.Param). p.ty) ps) kind) ∙ length-map ps (λ (p : code_param.Param). p.ty),
    )

pub next_of : (m a n : Module) (f : LLVMFunction) (ty : LLVMType) (x : code_function.Function) (r : Renames f a n) → a.types ≡ m.types → a.blocks ≡ m.blocks → a.insts ≡ m.insts
    → slice_get m.types ty.0 ≡ Some (T.Function x.result (map (λ (p : code_param.Param). p.ty) x.params.items) false)
    → (y : FunctionData) × (slice_get a.functions f.0 ≡ Some y) × (y.ty ≡ ty) × (length y.params ≡ length x.params.items) → IsNext n f (length m.blocks) (length m.insts) x
next_of m a n f ty x r types blocks insts kind y =
    let z = r.function y.0 y.1 in
    let same : n.types ≡ m.types = ap (λ (k : Module). k.types) r.rest ∙ types in
    record {
      function = z.0;
      there = z.1;
      types = ap (λ (t : LLVMType). type_params n.types t) (z.2 ∙ y.2) ∙ ap (λ (ks : List LLVMTypeKind). type_params ks ty) same ∙ params_of m ty x.result (map (λ (p : code_param.Param). p.ty) x.params.items) kind;
      names = z.3 ∙ y.3;
      blocks = sym (ap (λ (k : Module). length k.blocks) r.rest ∙ ap (λ (bs : List BlockData). length bs) blocks);
      insts = sym (ap (λ (k : Module). length k.insts) r.rest ∙ ap (λ (is : List InstData). length is) insts);
    }

-- a function that is declared and then gets its body is the one that is said
pub function_added : (bytes : List ℕ) (lines : List ConstLine) (f : ℕ) (name : List ℕ) (x : code_function.Function) (m a n : Module) → f ≡ length m.functions → a ≡ record m { functions = a.functions } → symbol_name (text_of bytes x.name) ≡ Some name
    → data_of a ≡ D.with_function (data_of m) (function_with bytes (trees_of m) (length m.functions) name x []) → (g : GivesBody bytes lines f x a n)
    → (data_over bytes lines m (length m.functions) (length m.blocks) (length m.insts) x ≡ Some (function_with bytes (trees_of m) (length m.functions) name x g.blocks))
    × (data_of n ≡ D.with_function (data_of m) (function_with bytes (trees_of m) (length m.functions) name x g.blocks))
function_added bytes lines f name x m a n number rest called h g =
    let bs = g.blocks in
    let Is : Module → Type 0 = λ k. data_over bytes lines k f (length k.blocks) (length k.insts) x ≡ option_map (λ nm. function_with bytes (trees_of k) f nm x bs) (symbol_name (text_of bytes x.name)) in
    let here : data_over bytes lines m f (length m.blocks) (length m.insts) x ≡ option_map (λ nm. function_with bytes (trees_of m) f nm x bs) (symbol_name (text_of bytes x.name)) = subst Is rest g.is in
    let one = here ∙ ap (option_map (λ nm. function_with bytes (trees_of m) f nm x bs)) called in (
      subst (λ (k : ℕ). data_over bytes lines m k (length m.blocks) (length m.insts) x ≡ Some (function_with bytes (trees_of m) k name x bs)) number one,
      g.given ∙ ap (λ (d : ModuleData). with_blocks d f bs) h
          ∙ ap (λ (k : ℕ). with_blocks (D.with_function (data_of m) (function_with bytes (trees_of m) (length m.functions) name x [])) k bs) number
          ∙ body_added (data_of m) (function_with bytes (trees_of m) (length m.functions) name x []) (numbers_below m) bs refl,
    )
