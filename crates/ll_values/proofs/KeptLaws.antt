-- A store with one item more says what is made.
use Rattle.std.proofs.Common.{◌≡◌, ◌<◌, ◌≤◌, ℕ, List, [], ◌∷◌, ◌++◌, Some, None, length, length-append, slice_get, refl, ap, sym, ◌∙◌, subst, arith, All}
use Rattle.std.proofs.lemmas.List.Elements.{All-push, All-cons, All-weaker}
use Rattle.support.proofs.ListLaws.{slice_get-before, slice_get-push}
use Rattle.llvm_core.specs.Module.{Module}
use Rattle.ll_lines.specs.declared.lines.SaidConst.{SaidConst}
use Rattle.ll_lines.specs.declared.lines.SaidConst.TheVariants as C
use Rattle.ll_lines.specs.declared.lines.ConstLine.{ConstLine}
use Rattle.ll_lines.specs.declared.lines.Inst.{Inst}
use Rattle.ll_lines.specs.declared.lines.Param.{Param}
use Rattle.llvm_core.specs.declared.numbers.LLVMType.{LLVMType}
use Rattle.llvm_core.specs.Data.{trees_of}
use Rattle.ll_lines.specs.Views.{const_line_view, inst_view, IsTypeIn, IsConstIn, IsConstLineIn, IsInstIn}
use Rattle.ll_values.specs.declared.store.Store.{Store}
use Rattle.ll_values.specs.declared.value.Entry.{Entry}
use Rattle.ll_values.specs.declared.value.Piece.{Piece}
use Rattle.ll_values.specs.declared.value.Piece.TheVariants as P
use Rattle.ll_values.specs.declared.value.Structure.{Structure}
use Rattle.ll_values.specs.declared.value.Definition.{Definition}
use Rattle.ll_values.specs.declared.value.Value.TheVariants as V
use Rattle.ll_values.specs.Lists.{list_at}
use Rattle.ll_values.specs.Values.{InstV}
use Rattle.ll_values.specs.Views.{table_of, made_in, entries_from, consts_from, body_from, types_from, params_from, struct_from, file_from, IsEntryIn, IsPieceIn, IsStructureIn, IsDefinitionIn, IsStoreIn}
use Rattle.ll_values.specs.Growing.{Interns, Keeps, Kept, KeptConst}
use Rattle.ll_values.proofs.ListLaws.{at_last}
use Rattle.ll_values.proofs.GrowLaws.{none_interned, const_there, inst_there}
use Rattle.ll_values.proofs.TableLaws.{table_kept, table_longer, table_pushed, table_put, table_last}
use Rattle.ll_values.proofs.KeepLaws.{all_at, all_lists, lists_kept, lists_pushed, literal_there, optional_there}

-- lists with one list more, of an item that is right before a list that is there
all_put : {T : Type 0} (Q : T → Type 0) (old new : List (List T)) (x : T) (n : ℕ) → new ≡ old ++ (x ∷ list_at old n) ∷ [] → n ≤ length old → Q x → All (All Q) old → All (All Q) new
all_put Q old new x n e le q h = rw e (All-push (All Q) old (x ∷ list_at old n) h (All-cons Q x (list_at old n) q (all_at Q old n h le)))

last_of : {T : Type 0} (old new : List (List T)) (xs : List T) (v : ℕ) → new ≡ old ++ xs ∷ [] → v ≡ length new → list_at new v ≡ xs
last_of old new xs v e h = rw e (at_last old xs v (h ∙ ap length e))

module _ (bytes : List ℕ) (m : Module) (s : Store) (st : IsStoreIn m s) where
  pub kept_entries : (e : Entry) (n : ℕ) (new : List (List Entry)) (v : ℕ) → IsEntryIn m s e → n ≤ length s.entries → new ≡ s.entries ++ (e ∷ list_at s.entries n) ∷ [] → v ≡ length new → Kept bytes m s (record s { entries = new }) (entries_from bytes (trees_of m) s e n) (V.Entries v)
  kept_entries e n new v q le put last = record {
    store = record { sound = st.sound; table = st.table; consts = st.consts; insts = st.insts; entries = all_put (IsEntryIn m s) s.entries new e n put le q st.entries; bodies = st.bodies; types = st.types; params = st.params; structs = st.structs; functions = st.functions };
    keeps = record { table = table_kept s.table.items; consts = lists_kept s.consts; inst_count = omega arith; insts = λ n h. refl; entries = lists_pushed s.entries new (e ∷ list_at s.entries n) put; bodies = lists_kept s.bodies; types = lists_kept s.types; params = lists_kept s.params; structs = lists_kept s.structs; functions = lists_kept s.functions };
    there = omega (arith, last);
    value = rw (last_of s.entries new (e ∷ list_at s.entries n) v put last) refl;
  }

  pub kept_consts : (c : SaidConst) (n : ℕ) (new : List (List SaidConst)) (v : ℕ) → IsConstIn m (made_in s) c → n ≤ length s.consts → new ≡ s.consts ++ (c ∷ list_at s.consts n) ∷ [] → v ≡ length new → Kept bytes m s (record s { consts = new }) (consts_from bytes (trees_of m) s c n) (V.Consts v)
  kept_consts c n new v q le put last = record {
    store = record {
      sound = st.sound;
      table = st.table;
      consts = all_put (IsConstIn m (made_in s)) s.consts new c n put le q st.consts;
      insts = st.insts;
      entries = all_lists (IsEntryIn m s) (IsEntryIn m (record s { consts = new })) (λ e h. literal_there m m s (record s { consts = new }) (none_interned m st.sound) longer e.literal h) s.entries st.entries;
      bodies = st.bodies;
      types = st.types;
      params = st.params;
      structs = st.structs;
      functions = st.functions;
    };
    keeps = longer;
    there = omega (arith, last);
    value = rw (last_of s.consts new (c ∷ list_at s.consts n) v put last) refl;
  }
    where
      longer : Keeps s (record s { consts = new })
      longer = record { table = table_kept s.table.items; consts = lists_pushed s.consts new (c ∷ list_at s.consts n) put; inst_count = omega arith; insts = λ n h. refl; entries = lists_kept s.entries; bodies = lists_kept s.bodies; types = lists_kept s.types; params = lists_kept s.params; structs = lists_kept s.structs; functions = lists_kept s.functions }

  pub kept_body : (p : Piece) (n : ℕ) (new : List (List Piece)) (v : ℕ) → IsPieceIn m s p → n ≤ length s.bodies → new ≡ s.bodies ++ (p ∷ list_at s.bodies n) ∷ [] → v ≡ length new → Kept bytes m s (record s { bodies = new }) (body_from bytes (trees_of m) s p n) (V.Body v)
  kept_body p n new v q le put last =
      let more = lists_pushed s.bodies new (p ∷ list_at s.bodies n) put in
      record {
        store = record {
          sound = st.sound;
          table = st.table;
          consts = st.consts;
          insts = st.insts;
          entries = st.entries;
          bodies = all_put (IsPieceIn m s) s.bodies new p n put le q st.bodies;
          types = st.types;
          params = st.params;
          structs = st.structs;
          functions = all_lists (IsDefinitionIn m s) (IsDefinitionIn m (record s { bodies = new })) (λ d h. (h.0, omega (arith, more.count, h.1))) s.functions st.functions;
        };
        keeps = record { table = table_kept s.table.items; consts = lists_kept s.consts; inst_count = omega arith; insts = λ n h. refl; entries = lists_kept s.entries; bodies = more; types = lists_kept s.types; params = lists_kept s.params; structs = lists_kept s.structs; functions = lists_kept s.functions };
        there = omega (arith, last);
        value = rw (last_of s.bodies new (p ∷ list_at s.bodies n) v put last) refl;
      }

  pub kept_types : (ty : LLVMType) (n : ℕ) (new : List (List LLVMType)) (v : ℕ) → IsTypeIn m ty → n ≤ length s.types → new ≡ s.types ++ (ty ∷ list_at s.types n) ∷ [] → v ≡ length new → Kept bytes m s (record s { types = new }) (types_from bytes (trees_of m) s ty n) (V.Types v)
  kept_types ty n new v q le put last = let more = lists_pushed s.types new (ty ∷ list_at s.types n) put in record {
    store = record { sound = st.sound; table = st.table; consts = st.consts; insts = st.insts; entries = st.entries; bodies = st.bodies; types = all_put (IsTypeIn m) s.types new ty n put le q st.types; params = st.params; structs = all_lists (IsStructureIn m s) (IsStructureIn m (record s { types = new })) (λ x h. optional_there m m s.types new (none_interned m st.sound) more st.types x.body h) s.structs st.structs; functions = st.functions };
    keeps = record { table = table_kept s.table.items; consts = lists_kept s.consts; inst_count = omega arith; insts = λ n h. refl; entries = lists_kept s.entries; bodies = lists_kept s.bodies; types = more; params = lists_kept s.params; structs = lists_kept s.structs; functions = lists_kept s.functions };
    there = omega (arith, last);
    value = rw (last_of s.types new (ty ∷ list_at s.types n) v put last) refl;
  }

  pub kept_params : (p : Param) (n : ℕ) (new : List (List Param)) (v : ℕ) → IsTypeIn m p.ty → n ≤ length s.params → new ≡ s.params ++ (p ∷ list_at s.params n) ∷ [] → v ≡ length new → Kept bytes m s (record s { params = new }) (params_from bytes (trees_of m) s p n) (V.Params v)
  kept_params p n new v q le put last =
      let more = lists_pushed s.params new (p ∷ list_at s.params n) put in
      record {
        store = record {
          sound = st.sound;
          table = st.table;
          consts = st.consts;
          insts = st.insts;
          entries = st.entries;
          bodies = st.bodies;
          types = st.types;
          params = all_put (λ (x : Param). IsTypeIn m x.ty) s.params new p n put le q st.params;
          structs = st.structs;
          functions = all_lists (IsDefinitionIn m s) (IsDefinitionIn m (record s { params = new })) (λ d h. ((h.0.0, omega (arith, more.count, h.0.1)), h.1)) s.functions st.functions;
        };
        keeps = record { table = table_kept s.table.items; consts = lists_kept s.consts; inst_count = omega arith; insts = λ n h. refl; entries = lists_kept s.entries; bodies = lists_kept s.bodies; types = lists_kept s.types; params = more; structs = lists_kept s.structs; functions = lists_kept s.functions };
        there = omega (arith, last);
        value = rw (last_of s.params new (p ∷ list_at s.params n) v put last) refl;
      }

  pub kept_struct : (x : Structure) (n k : ℕ) (new : List (List Structure)) (v : ℕ) → IsStructureIn m s x → n ≤ length s.structs → k ≤ length s.functions → new ≡ s.structs ++ (x ∷ list_at s.structs n) ∷ [] → v ≡ length new
      → Kept bytes m s (record s { structs = new }) (struct_from bytes (trees_of m) s x n k) (V.File None v k)
  kept_struct x n k new v q le within put last = record {
    store = record { sound = st.sound; table = st.table; consts = st.consts; insts = st.insts; entries = st.entries; bodies = st.bodies; types = st.types; params = st.params; structs = all_put (IsStructureIn m s) s.structs new x n put le q st.structs; functions = st.functions };
    keeps = record { table = table_kept s.table.items; consts = lists_kept s.consts; inst_count = omega arith; insts = λ n h. refl; entries = lists_kept s.entries; bodies = lists_kept s.bodies; types = lists_kept s.types; params = lists_kept s.params; structs = lists_pushed s.structs new (x ∷ list_at s.structs n) put; functions = lists_kept s.functions };
    there = (omega (arith, last), within);
    value = rw (last_of s.structs new (x ∷ list_at s.structs n) v put last) refl;
  }

  pub kept_file : (d : Definition) (k n : ℕ) (new : List (List Definition)) (v : ℕ) → IsDefinitionIn m s d → k ≤ length s.structs → n ≤ length s.functions → new ≡ s.functions ++ (d ∷ list_at s.functions n) ∷ [] → v ≡ length new
      → Kept bytes m s (record s { functions = new }) (file_from bytes (trees_of m) s d k n) (V.File None k v)
  kept_file d k n new v q within le put last = record {
    store = record { sound = st.sound; table = st.table; consts = st.consts; insts = st.insts; entries = st.entries; bodies = st.bodies; types = st.types; params = st.params; structs = st.structs; functions = all_put (IsDefinitionIn m s) s.functions new d n put le q st.functions };
    keeps = record { table = table_kept s.table.items; consts = lists_kept s.consts; inst_count = omega arith; insts = λ n h. refl; entries = lists_kept s.entries; bodies = lists_kept s.bodies; types = lists_kept s.types; params = lists_kept s.params; structs = lists_kept s.structs; functions = lists_pushed s.functions new (d ∷ list_at s.functions n) put };
    there = (within, omega (arith, last));
    value = rw (last_of s.functions new (d ∷ list_at s.functions n) v put last) refl;
  }

  pub kept_inst : (i : Inst) (new : Store) (v : ℕ) → IsInstIn m (made_in s) i → new ≡ record s { insts = new.insts } → new.insts.items ≡ s.insts.items ++ i ∷ [] → v ≡ length s.insts.items → Kept bytes m s new (InstV (inst_view bytes (trees_of m) (table_of bytes (trees_of m) s) i)) (V.Inst v)
  kept_inst i new v q is put last = subst (λ (x : Store). Kept bytes m s x (InstV (inst_view bytes (trees_of m) (table_of bytes (trees_of m) s) i)) (V.Inst v)) (sym is) here
    where
      longer : length s.insts.items < length new.insts.items
      longer = omega (arith, ap length put, length-append s.insts.items (i ∷ []))

      piece : (p : Piece) → IsPieceIn m s p → IsPieceIn m (record s { insts = new.insts }) p
      piece (P.Label l) h = tt
      piece (P.Does name j) h = omega (arith, longer, h)

      at : slice_get new.insts.items v ≡ Some i
      at = rw put (slice_get-push s.insts.items i v last)

      here : Kept bytes m s (record s { insts = new.insts }) (InstV (inst_view bytes (trees_of m) (table_of bytes (trees_of m) s) i)) (V.Inst v)
      here = record {
        store = record {
          sound = st.sound;
          table = st.table;
          consts = st.consts;
          insts = rw put (All-push (IsInstIn m (made_in s)) s.insts.items i st.insts q);
          entries = st.entries;
          bodies = all_lists (IsPieceIn m s) (IsPieceIn m (record s { insts = new.insts })) piece s.bodies st.bodies;
          types = st.types;
          params = st.params;
          structs = st.structs;
          functions = st.functions;
        };
        keeps = record { table = table_kept s.table.items; consts = lists_kept s.consts; inst_count = omega (arith, longer); insts = λ j h. rw put (slice_get-before s.insts.items (i ∷ []) j h); entries = lists_kept s.entries; bodies = lists_kept s.bodies; types = lists_kept s.types; params = lists_kept s.params; structs = lists_kept s.structs; functions = lists_kept s.functions };
        there = omega (arith, longer, last);
        value = rw at refl;
      }

  -- so does one whose table has one constant more
  pub kept_const : (l : ConstLine) (new : Store) (p : ℕ) → IsConstLineIn m (made_in s) l → new ≡ record s { table = new.table } → new.table.items ≡ s.table.items ++ l ∷ [] → p ≡ made_in s
      → KeptConst bytes m s new (const_line_view bytes (trees_of m) (table_of bytes (trees_of m) s) l) (C.Made (record { 0 = p }))
  kept_const l new p q is put last = subst (λ (x : Store). KeptConst bytes m s x (const_line_view bytes (trees_of m) (table_of bytes (trees_of m) s) l) (C.Made (record { 0 = p }))) (sym is) here
    where
      t : Store
      t = record s { table = new.table }

      g : Interns m m
      g = none_interned m st.sound

      more : made_in s ≤ made_in t
      more = table_longer s.table.items new.table.items (table_pushed s.table.items new.table.items l put)

      longer : Keeps s t
      longer = record { table = table_pushed s.table.items new.table.items l put; consts = lists_kept s.consts; inst_count = omega arith; insts = λ n h. refl; entries = lists_kept s.entries; bodies = lists_kept s.bodies; types = lists_kept s.types; params = lists_kept s.params; structs = lists_kept s.structs; functions = lists_kept s.functions }

      here : KeptConst bytes m s t (const_line_view bytes (trees_of m) (table_of bytes (trees_of m) s) l) (C.Made (record { 0 = p }))
      here = record {
        store = record {
          sound = st.sound;
          table = table_put m s.table.items new.table.items l st.table q put;
          consts = all_lists (IsConstIn m (made_in s)) (IsConstIn m (made_in t)) (const_there m m g (made_in s) (made_in t) more) s.consts st.consts;
          insts = All-weaker (IsInstIn m (made_in s)) (IsInstIn m (made_in t)) (inst_there m m g (made_in s) (made_in t) more) s.insts.items st.insts;
          entries = all_lists (IsEntryIn m s) (IsEntryIn m t) (λ e h. literal_there m m s t g longer e.literal h) s.entries st.entries;
          bodies = st.bodies;
          types = st.types;
          params = st.params;
          structs = st.structs;
          functions = st.functions;
        };
        keeps = longer;
        there = omega (arith, last, ap length put, length-append s.table.items (l ∷ []));
        value = table_last bytes (trees_of m) s.table.items new.table.items l p put last;
      }
