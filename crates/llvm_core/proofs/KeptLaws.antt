-- What a module keeps has none of the spellings that the one form rules out.
use Rattle.std.proofs.Common.{◌≡◌, ℕ, Bool, true, false, ◌&&◌, if◌then◌else◌, List, [], ◌∷◌, Option, Some, None, All, length, slice_get, ap, sym, ◌∙◌, refl}
use Rattle.std.specs.List.{list_all}
use Rattle.std.specs.Option.{option_map, option_map_or, option_and_then}
use Rattle.kinds.specs.declared.fill.Fill.{Fill}
use Rattle.kinds.specs.declared.fill.Fill.TheVariants as F
use Rattle.kinds.specs.Fill.{is_own_fill}
use Rattle.llvm_core.specs.declared.numbers.LLVMType.{LLVMType}
use Rattle.llvm_core.specs.declared.numbers.LLVMConst.{LLVMConst}
use Rattle.llvm_core.specs.declared.consts.LLVMConstKind.{LLVMConstKind}
use Rattle.llvm_core.specs.declared.consts.LLVMConstKind.TheVariants as C
use Rattle.llvm_core.specs.Module.{Module}
use Rattle.llvm_core.specs.Parts.{shape_at, is_kind}
use Rattle.llvm_core.specs.Consts.{IsAt, IsBytesType, IsConstIn, fill_of, is_fill, common_fill, int_of, all_ints, told, is_zero, is_byte_array, list_form}
use Rattle.llvm_core.specs.Kept.{IsFill, ZeroInt, OfType, IsInt, AnInt, IsKept}
use Rattle.std.proofs.lemmas.List.Elements.{All-head, All-tail}

-- ---- what the functions of the one form tell

told_fill : (fill : Fill) (k : LLVMConstKind) → IsFill fill k → is_fill fill (fill_of k) ≡ true
told_fill _ _ (ZeroInt t) = refl
told_fill _ _ (OfType F.Zero t) = refl
told_fill _ _ (OfType F.Undef t) = refl
told_fill _ _ (OfType F.Poison t) = refl

told_fills : (fill : Fill) (consts : List LLVMConstKind) (cs : List LLVMConst) → All (IsAt (IsFill fill) consts) cs → list_all (is_fill fill) (told fill_of consts cs) ≡ true
told_fills fill consts [] all = refl
told_fills fill consts (c ∷ cs) all =
    let (k, at, is) = All-head (IsAt (IsFill fill) consts) c cs all in
    let first : is_fill fill (option_and_then fill_of (slice_get consts c.0)) ≡ true = ap (λ (o : Option LLVMConstKind). is_fill fill (option_and_then fill_of o)) at ∙ told_fill fill k is in
    ap (λ (b : Bool). b && list_all (is_fill fill) (told fill_of consts cs)) first ∙ told_fills fill consts cs (All-tail (IsAt (IsFill fill) consts) c cs all)

-- where each is one of the three, all are one of them
some_fill : (fill : Fill) (os : List (Option Fill)) → list_all (is_fill fill) os ≡ true → (f : Fill) × (common_fill os ≡ Some f)
some_fill fill os all = by (list_all (is_fill F.Zero) os) (list_all (is_fill F.Undef) os) (list_all (is_fill F.Poison) os) refl refl refl
  where
    found : (zero undef poison : Bool) → Option Fill
    found zero undef poison = if zero then Some F.Zero else if undef then Some F.Undef else if poison then Some F.Poison else None

    by : (zero undef poison : Bool) → list_all (is_fill F.Zero) os ≡ zero → list_all (is_fill F.Undef) os ≡ undef → list_all (is_fill F.Poison) os ≡ poison → (f : Fill) × (found zero undef poison ≡ Some f)
    by true undef poison z u p = (F.Zero, refl)
    by false true poison z u p = (F.Undef, refl)
    by false false true z u p = (F.Poison, refl)
    by false false false z u p = absurd (none fill all)
      where
        none : (fill : Fill) → list_all (is_fill fill) os ≡ true → ⊥
        none F.Zero h = absurd (cc (h, z))
        none F.Undef h = absurd (cc (h, u))
        none F.Poison h = absurd (cc (h, p))

told_ints : (consts : List LLVMConstKind) (cs : List LLVMConst) → All (IsAt IsInt consts) cs → (ns : List ℕ) × (all_ints (told int_of consts cs) ≡ Some ns)
told_ints consts [] all = ([], refl)
told_ints consts (c ∷ cs) all =
    let (k, at, is) = All-head (IsAt IsInt consts) c cs all in
    let (n, first) = int_told k is in
    let (ns, rest) = told_ints consts cs (All-tail (IsAt IsInt consts) c cs all) in
    (n ∷ ns, ap (λ (o : Option ℕ). option_and_then (λ (m : ℕ). option_map (λ (ms : List ℕ). m ∷ ms) (all_ints (told int_of consts cs))) o) (ap (option_and_then int_of) at ∙ first) ∙ ap (option_map (λ (ms : List ℕ). n ∷ ms)) rest)
  where
    int_told : (k : LLVMConstKind) → IsInt k → (n : ℕ) × (int_of k ≡ Some n)
    int_told _ (AnInt t value) = (value, refl)

-- ---- what is kept

module _ (m : Module) where
  -- bytes of only 0
  all_zero : (bytes : List ℕ) → All (λ (b : ℕ). b ≡ 0) bytes → list_all is_zero bytes ≡ true
  all_zero [] all = refl
  all_zero (b ∷ bs) all = ap (λ (n : ℕ). is_zero n && list_all is_zero bs) (All-head (λ (n : ℕ). n ≡ 0) b bs all) ∙ all_zero bs (All-tail (λ (n : ℕ). n ≡ 0) b bs all)

  -- a list of only zeros, of only undef or of only poison
  no_fill : (t : LLVMType) (cs : List LLVMConst) → list_form m.types m.consts t cs ≡ C.List t cs → (fill : Fill) → ¬ All (IsAt (IsFill fill) m.consts) cs
  no_fill t cs h fill all =
      let (f, is) = some_fill fill (told fill_of m.consts cs) (told_fills fill m.consts cs all) in
      let bytes : Option (List ℕ) = if is_kind (is_byte_array m.types) m.types t then all_ints (told int_of m.consts cs) else None in
      let other : list_form m.types m.consts t cs ≡ C.Filled f t = ap (λ (o : Option Fill). option_map_or (λ (fill : Fill). C.Filled fill t) o (option_map_or (C.Bytes t) bytes (C.List t cs))) is in
      absurd (cc (h, other))

  -- a list of integers in an array of integers of 8 bits
  no_bytes : (t : LLVMType) (cs : List LLVMConst) → list_form m.types m.consts t cs ≡ C.List t cs → IsBytesType m.types m.consts m.structs t (length cs) → ¬ All (IsAt IsInt m.consts) cs
  no_bytes t cs h (e, array, byte) all =
      let (ns, ints) = told_ints m.consts cs all in
      let is : is_kind (is_byte_array m.types) m.types t ≡ true = rw (array, byte) refl in
      let rest : (if is_kind (is_byte_array m.types) m.types t then all_ints (told int_of m.consts cs) else None) ≡ Some ns = ap (λ (b : Bool). if b then all_ints (told int_of m.consts cs) else None) is ∙ ints in
      let other : list_form m.types m.consts t cs ≡ option_map_or (λ (fill : Fill). C.Filled fill t) (common_fill (told fill_of m.consts cs)) (C.Bytes t ns) = ap (λ (o : Option (List ℕ)). option_map_or (λ (fill : Fill). C.Filled fill t) (common_fill (told fill_of m.consts cs)) (option_map_or (C.Bytes t) o (C.List t cs))) rest in
      by ns (common_fill (told fill_of m.consts cs)) (sym other ∙ h)
    where
      by : (ns : List ℕ) (o : Option Fill) → option_map_or (λ (fill : Fill). C.Filled fill t) o (C.Bytes t ns) ≡ C.List t cs → ⊥
      by ns None e = absurd cc
      by ns (Some fill) e = absurd cc

  pub kept : (k : LLVMConstKind) → IsConstIn m k → IsKept m k
  kept (C.Int t value) h = tt
  kept (C.Filled fill t) h = λ width at zero. absurd (cc (h.1, ap (λ (f : Fill). is_own_fill f (shape_at m.types t)) zero))
  kept (C.Bytes t bytes) h = λ all. absurd (cc (h.1, ap (λ (b : Bool). if b then C.Filled F.Zero t else C.Bytes t bytes) (all_zero bytes all)))
  kept (C.List t elements) h = (no_fill t elements h.1, λ x. no_bytes t elements h.1 x.0 x.1)
  kept (C.Splat t element) h = λ fill all.
      let (k, at, is) = All-head (IsAt (IsFill fill) m.consts) element [] all in
      by fill k at is (told_fill fill k is)
    where
      by : (fill : Fill) (k : LLVMConstKind) → slice_get m.consts element.0 ≡ Some k → IsFill fill k → is_fill fill (fill_of k) ≡ true → ⊥
      by fill k at is told = some (fill_of k) refl told
        where
          some : (o : Option Fill) → fill_of k ≡ o → is_fill fill o ≡ true → ⊥
          some None e is = absurd cc
          some (Some f) e is = absurd (cc (h.1, ap (λ (o : Option LLVMConstKind). option_map_or (λ (f : Fill). C.Filled f t) (option_and_then fill_of o) (C.Splat t element)) at))
  kept (C.Placeholder number t) h = tt
