-- What the calls of a code store leave: an item is read at its place, and written back changed or as it was.
use Rattle.std.proofs.Common.{◌≡◌, ◌<◌, ℕ, zero, suc, List, [], ◌∷◌, ◌++◌, Option, None, Some, length, slice_get, slice_set, get_or, sym, ap, ◌∙◌, refl, arith}
use Rattle.std.specs.Option.{option_map_or}
use Rattle.std.proofs.lemmas.Option.{slice_get_within, slice_get-get_or}
use Rattle.support.specs.Changes.{with_change}
use Rattle.llvm_core.specs.declared.numbers.LLVMType.{LLVMType}
use Rattle.llvm_core.specs.declared.numbers.LLVMFunction.{LLVMFunction}
use Rattle.llvm_core.specs.declared.numbers.LLVMBasicBlock.{LLVMBasicBlock}
use Rattle.llvm_core.specs.declared.numbers.LLVMInstRef.{LLVMInstRef}
use Rattle.llvm_core.specs.declared.code.LLVMInst.{LLVMInst}
use Rattle.llvm_core.specs.declared.code.FunctionData.{FunctionData}
use Rattle.llvm_core.specs.declared.code.BlockData.{BlockData}
use Rattle.llvm_core.specs.declared.code.InstData.{InstData}
use Rattle.llvm_core.specs.Code.{Code, with_param_name, with_block, with_inst, with_changed_inst, param_names}

-- the item that was read at its place, changed and written back
written : {X : Type 0} (f : X → X) (xs : List X) (i : ℕ) (x y : X) → i < length xs → x ≡ get_or xs i x → y ≡ f x → slice_set xs i y ≡ with_change f i xs
written f xs i x y lt read new =
    let there : slice_get xs i ≡ Some x = slice_get-get_or xs i x lt ∙ ap Some (sym read) in
    ap (slice_set xs i) new ∙ sym (ap (λ o. option_map_or (λ z. slice_set xs i (f z)) o xs) there)

-- written back as it was
unwritten : {X : Type 0} (xs : List X) (i : ℕ) (x : X) → x ≡ get_or xs i x → slice_set xs i x ≡ xs
unwritten [] i x read = refl
unwritten (z ∷ xs) zero x read = ap (λ y. y ∷ xs) read
unwritten (z ∷ xs) (suc i) x read = ap (λ ys. z ∷ ys) (unwritten xs i x read)

module _ (c : Code) where
  pub block_appended : (f : LLVMFunction) (b : LLVMBasicBlock) (x : FunctionData) (name made : List ℕ) (none : List LLVMInstRef) (rows : List BlockData) (numbers : List LLVMBasicBlock)
      → f.0 < length c.functions → x ≡ get_or c.functions f.0 x → made ≡ name → none ≡ []
      → rows ≡ c.blocks ++ (record { name = made; function = f; insts = none }) ∷ [] → numbers ≡ x.blocks ++ b ∷ []
      → record c { functions = slice_set c.functions f.0 (record x { blocks = numbers }); blocks = rows } ≡ with_block c f b name
  block_appended f b x name made none rows numbers lt read named empty pushed listed =
      let functions = written (λ (y : FunctionData). record y { blocks = y.blocks ++ b ∷ [] }) c.functions f.0 x (record x { blocks = numbers }) lt read (ap (λ ns. record x { blocks = ns }) listed) in
      let row : BlockData = record { name = name; function = f; insts = [] } in
      let blocks : rows ≡ c.blocks ++ row ∷ [] = rw (pushed, named, empty) refl in
      ap (λ fs. record c { functions = fs; blocks = rows }) functions ∙ ap (λ bs. record (with_block c f b name) { blocks = bs }) blocks

  pub block_refused : (f : LLVMFunction) (x : FunctionData) (rows : List BlockData) (numbers : List LLVMBasicBlock) → x ≡ get_or c.functions f.0 x → rows ≡ c.blocks → numbers ≡ x.blocks
      → record c { functions = slice_set c.functions f.0 (record x { blocks = numbers }); blocks = rows } ≡ c
  block_refused f x rows numbers read same listed =
      ap (λ ns. record c { functions = slice_set c.functions f.0 (record x { blocks = ns }); blocks = rows }) listed
      ∙ ap (λ fs. record c { functions = fs; blocks = rows }) (unwritten c.functions f.0 x read) ∙ ap (λ bs. record c { blocks = bs }) same

  pub inst_changed : (i : LLVMInstRef) (change : LLVMInst → LLVMInst) (x : InstData) (new : LLVMInst) → i.0 < length c.insts → x ≡ get_or c.insts i.0 x → new ≡ change x.inst
      → record c { insts = slice_set c.insts i.0 (record x { inst = new }) } ≡ with_changed_inst c i change
  inst_changed i change x new lt read changed =
      ap (λ is. record c { insts = is }) (written (λ (y : InstData). record y { inst = change y.inst }) c.insts i.0 x (record x { inst = new }) lt read (ap (λ n. record x { inst = n }) changed))

  pub inst_unchanged : (i : LLVMInstRef) (x : InstData) (new : LLVMInst) → x ≡ get_or c.insts i.0 x → new ≡ x.inst → record c { insts = slice_set c.insts i.0 (record x { inst = new }) } ≡ c
  inst_unchanged i x new read same = ap (λ n. record c { insts = slice_set c.insts i.0 (record x { inst = n }) }) same ∙ ap (λ is. record c { insts = is }) (unwritten c.insts i.0 x read)

  pub inst_appended : (b : LLVMBasicBlock) (i : LLVMInstRef) (x : BlockData) (name made : List ℕ) (ty : LLVMType) (inst : LLVMInst) (rows : List InstData) (numbers : List LLVMInstRef)
      → b.0 < length c.blocks → x ≡ get_or c.blocks b.0 x → made ≡ name → rows ≡ c.insts ++ (record { name = made; block = b; ty = ty; inst = inst }) ∷ [] → numbers ≡ x.insts ++ i ∷ []
      → record c { blocks = slice_set c.blocks b.0 (record x { insts = numbers }); insts = rows } ≡ with_inst c b i name ty inst
  inst_appended b i x name made ty inst rows numbers lt read named pushed listed =
      let blocks = written (λ (y : BlockData). record y { insts = y.insts ++ i ∷ [] }) c.blocks b.0 x (record x { insts = numbers }) lt read (ap (λ ns. record x { insts = ns }) listed) in
      let row : InstData = record { name = name; block = b; ty = ty; inst = inst } in
      let insts : rows ≡ c.insts ++ row ∷ [] = rw (pushed, named) refl in
      ap (λ bs. record c { blocks = bs; insts = rows }) blocks ∙ ap (λ is. record (with_inst c b i name ty inst) { insts = is }) insts

  pub inst_refused : (b : LLVMBasicBlock) (x : BlockData) (rows : List InstData) (numbers : List LLVMInstRef) → x ≡ get_or c.blocks b.0 x → rows ≡ c.insts → numbers ≡ x.insts
      → record c { blocks = slice_set c.blocks b.0 (record x { insts = numbers }); insts = rows } ≡ c
  inst_refused b x rows numbers read same listed =
      ap (λ ns. record c { blocks = slice_set c.blocks b.0 (record x { insts = ns }); insts = rows }) listed
      ∙ ap (λ bs. record c { blocks = bs; insts = rows }) (unwritten c.blocks b.0 x read) ∙ ap (λ is. record c { insts = is }) same

  -- the function that has a parameter at that place is there
  pub param_within : (f : LLVMFunction) (place : ℕ) → place < length (param_names c.functions f) → f.0 < length c.functions
  param_within f place lt = by (slice_get c.functions f.0) refl lt
    where
      by : (o : Option FunctionData) → slice_get c.functions f.0 ≡ o → place < length (option_map_or (λ (x : FunctionData). x.params) o []) → f.0 < length c.functions
      by None e lt = absurd (omega (arith, lt))
      by (Some x) e lt = slice_get_within c.functions f.0 x e

  pub param_renamed : (f : LLVMFunction) (x : FunctionData) (place : ℕ) (name made : List ℕ) (names : List (List ℕ)) → f.0 < length c.functions → x ≡ get_or c.functions f.0 x → made ≡ name → names ≡ slice_set x.params place made
      → record c { functions = slice_set c.functions f.0 (record x { params = names }) } ≡ with_param_name c f place name
  param_renamed f x place name made names lt read named put =
      ap (λ fs. record c { functions = fs })
      (written (λ (y : FunctionData). record y { params = slice_set y.params place name }) c.functions f.0 x (record x { params = names }) lt read (ap (λ ns. record x { params = ns }) (put ∙ ap (slice_set x.params place) named)))

  -- and that function, read at its place, has it
  pub param_listed : (f : LLVMFunction) (x : FunctionData) (place : ℕ) → place < length (param_names c.functions f) → x ≡ get_or c.functions f.0 x → place < length x.params
  param_listed f x place lt read =
      let there : slice_get c.functions f.0 ≡ Some x = slice_get-get_or c.functions f.0 x (param_within f place lt) ∙ ap Some (sym read) in
      rw there at lt
