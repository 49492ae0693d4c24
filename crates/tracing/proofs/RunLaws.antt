-- What a run's state is after each of its steps.
use Rattle.std.proofs.Common.{◌≡◌, ◌<◌, ℕ, Bool, true, false, cond, if◌then◌else◌, List, [], ◌∷◌, ◌++◌, Option, Some, None, length, map, slice_get, get_or, ◌+◌, refl, sym, ap, subst, ◌∙◌, arith, All}
use Rattle.std.specs.Prelude.{take}
use Rattle.std.proofs.lemmas.List.{map-append, take_more}
use Rattle.std.proofs.lemmas.List.Elements.{All-cons, All-head, All-tail}
use Rattle.std.proofs.lemmas.Option.{get_or_from_slice_get, slice_get_within, slice_get-get_or}
use Rattle.meaning.proofs.MatchedLaws.{matched_push}
use Rattle.indexmap.specs.IndexMap.{get}
use Rattle.kinds.specs.declared.op.Op.{Op}
use Rattle.kinds.specs.declared.rules.Family.{Family}
use Rattle.kinds.specs.declared.rules.Family.TheVariants.{Shows, Builds}
use Rattle.meaning.specs.Terms.{Term, Unset, Answer, Expr, family, made_by, terms_of}
use Rattle.meaning.specs.Machine as M
use Rattle.meaning.specs.Machine.{Item, State}
use Rattle.meaning.specs.Pairs.{Matched}
use Rattle.tracing.specs.declared.table.TermNode.{TermNode}
use Rattle.tracing.specs.declared.body.Slot.{Slot}
use Rattle.tracing.specs.declared.body.Slot.TheVariants.{Input}
use Rattle.tracing.specs.declared.body.Source.{Source}
use Rattle.tracing.specs.declared.body.Source.TheVariants as S
use Rattle.tracing.specs.declared.trace.Types.{Types}
use Rattle.tracing.specs.declared.body.Action.TheVariants as A
use Rattle.tracing.specs.declared.body.Row.{Row}
use Rattle.tracing.specs.declared.trace.TraceItem.{TraceItem}
use Rattle.tracing.specs.declared.trace.TraceItem.TheVariants as I
use Rattle.tracing.specs.declared.run.Run.{Run}
use Rattle.llvm_core.specs.declared.numbers.LLVMType.{LLVMType}
use Rattle.llvm_core.specs.Data.{TypeTree, VoidType, type_at}
use Rattle.tracing.specs.Types.{HasTypesBelow, AllStand}
use Rattle.tracing.specs.Table.{terms, term_at, AreTyped}
use Rattle.tracing.specs.Bodies.{same_slot, source_of, action_of, row_of}
use Rattle.tracing.specs.Contents.{Contents}
use Rattle.tracing.specs.Runs.{is_built, item_of, HasPlacesBelow, Names, AllNamed, Reads, ShowsItem, IsAt, Keeps}
use Rattle.tracing.proofs.TableLaws.{kept_term, named_below}
use Rattle.tracing.proofs.GrowLaws.{stands_at, all_at, all_types_below}

-- ---- lists

pub take_read : {A B C : Type 0} (f : B → C) (g : A → B) (xs : List A) (i : ℕ) (d : A) → i < length xs → map f (map g (take (i + 1) xs)) ≡ map f (map g (take i xs)) ++ f (g (get_or xs i d)) ∷ []
take_read f g xs i d lt =
    ap (λ ys. map f (map g ys)) (take_more xs i d lt)
    ∙ ap (map f) (map-append g (take i xs) (get_or xs i d ∷ []))
    ∙ map-append f (map g (take i xs)) (g (get_or xs i d) ∷ [])

pub take_push : {A B : Type 0} (f : A → B) (xs : List A) (i : ℕ) (d : A) → i < length xs → map f (take (i + 1) xs) ≡ map f (take i xs) ++ f (get_or xs i d) ∷ []
take_push f xs i d lt = ap (map f) (take_more xs i d lt) ∙ map-append f (take i xs) (get_or xs i d ∷ [])

abbrev pub some_source : Source
some_source = S.At (Input 0 0)

builds : (f : Family) → is_built f ≡ true → f ≡ Builds
builds Builds h = refl
builds Shows h = cc

not_built : (f : Family) → is_built f ≡ false → f ≡ Shows
not_built Shows h = refl
not_built Builds h = cc

pub straight_push : (s : State Slot) (rs : List (M.Row Slot)) (r : M.Row Slot) → M.straight Slot same_slot s (rs ++ r ∷ []) ≡ M.apply Slot same_slot (M.straight Slot same_slot s rs) r.result r.action
straight_push s [] r = refl
straight_push s (q ∷ rs) r = straight_push (M.apply Slot same_slot s q.result q.action) rs r

module _ (trees : List TypeTree) where
  -- ---- a table that grows

  pub grown_keeps : (old new more : List TermNode) → new ≡ old ++ more → Keeps trees old new
  grown_keeps old new more e k t at = ap (λ ns. slice_get (terms trees ns) k) e ∙ kept_term trees old more k t at

  pub all_kept : (old new : List TermNode) → Keeps trees old new → (ks : List ℕ) (ts : List Term) → AllNamed trees old ks ts → AllNamed trees new ks ts
  all_kept old new keeps [] [] h = tt
  all_kept old new keeps (k ∷ ks) (t ∷ ts) h = (keeps k t h.0, all_kept old new keeps ks ts h.1)
  all_kept old new keeps [] (t ∷ ts) h = elim h [ ]
  all_kept old new keeps (k ∷ ks) [] h = elim h [ ]

  read_kept : (old new : List TermNode) → Keeps trees old new → (o : Option ℕ) (t : Term) → Reads trees old o t → Reads trees new o t
  read_kept old new keeps None t h = h
  read_kept old new keeps (Some k) t h = keeps k t h

  item_kept : (old new : List TermNode) → Keeps trees old new → (x : TraceItem) (i : Item) → ShowsItem trees old x i → ShowsItem trees new x i
  item_kept old new keeps (I.Block b) (M.Entered c) h = h
  item_kept old new keeps (I.Event o types ks) (M.Event p ty tys ts) h = (h.0, h.1, h.2, all_kept old new keeps ks.items ts h.3)
  item_kept old new keeps (I.Block b) (M.Event p ty tys ts) h = elim h [ ]
  item_kept old new keeps (I.Event o types ks) (M.Entered c) h = elim h [ ]

  items_kept : (old new : List TermNode) → Keeps trees old new → (xs : List TraceItem) (is : List Item) → Matched (ShowsItem trees old) xs is → Matched (ShowsItem trees new) xs is
  items_kept old new keeps [] [] h = tt
  items_kept old new keeps (x ∷ xs) (i ∷ is) h = (item_kept old new keeps x i h.0, items_kept old new keeps xs is h.1)
  items_kept old new keeps [] (i ∷ is) h = elim h [ ]
  items_kept old new keeps (x ∷ xs) [] h = elim h [ ]

  read_set : (ns : List TermNode) (b : Bool) (k : ℕ) (o : Option ℕ) (t u : Term) → Names trees ns k t → Reads trees ns o u → Reads trees ns (cond b (Some k) o) (if b then t else u)
  read_set ns true k o t u named h = named
  read_set ns false k o t u named h = h

  -- ---- operands

  pub all_below : (ns : List TermNode) (ks : List ℕ) (ts : List Term) → AllNamed trees ns ks ts → All (λ (k : ℕ). k < length ns) ks
  all_below ns [] [] h = grind arith
  all_below ns (k ∷ ks) (t ∷ ts) h = All-cons (λ (k : ℕ). k < length ns) k ks (named_below trees ns k t h.0) (all_below ns ks ts h.1)
  all_below ns [] (t ∷ ts) h = elim h [ ]
  all_below ns (k ∷ ks) [] h = elim h [ ]

  pub named_push : (old new : List TermNode) (ks : List ℕ) (ts : List Term) (k : ℕ) (t : Term) → Keeps trees old new → AllNamed trees old ks ts → Names trees new k t → AllNamed trees new (ks ++ k ∷ []) (ts ++ t ∷ [])
  named_push old new ks ts k t keeps h named = matched_push (Names trees new) ks ts k t (all_kept old new keeps ks ts h) named

  -- the terms that stand at places are what is looked up there
  pub named_terms : (ns : List TermNode) (ks : List ℕ) (us : List Term) → AllNamed trees ns ks us → map (term_at (terms trees ns)) ks ≡ us
  named_terms ns [] [] h = refl
  named_terms ns (k ∷ ks) (u ∷ us) h = let e = get_or_from_slice_get (terms trees ns) k u Unset h.0 in let rest = named_terms ns ks us h.1 in cc
  named_terms ns [] (u ∷ us) h = elim h [ ]
  named_terms ns (k ∷ ks) [] h = elim h [ ]

  -- ---- what was shown

  item_is : (ns : List TermNode) (x : TraceItem) (i : Item) → ShowsItem trees ns x i → item_of trees (terms trees ns) x ≡ i
  item_is ns (I.Block b) (M.Entered c) h = ap M.Entered h
  item_is ns (I.Event o types ks) (M.Event p ty tys us) h =
      let a = h.0 in
      let b = stands_at trees types.result ty h.1 in
      let c = all_at trees types.operands tys h.2 in
      let d = named_terms ns ks.items us h.3 in
      cc
  item_is ns (I.Block b) (M.Event p ty tys us) h = elim h [ ]
  item_is ns (I.Event o types ks) (M.Entered c) h = elim h [ ]

  pub items_are : (ns : List TermNode) (xs : List TraceItem) (is : List Item) → Matched (ShowsItem trees ns) xs is → map (item_of trees (terms trees ns)) xs ≡ is
  items_are ns [] [] h = refl
  items_are ns (x ∷ xs) (i ∷ is) h = let e = item_is ns x i h.0 in let rest = items_are ns xs is h.1 in cc
  items_are ns [] (i ∷ is) h = elim h [ ]
  items_are ns (x ∷ xs) [] h = elim h [ ]

  item_below : (ns : List TermNode) (x : TraceItem) (i : Item) → ShowsItem trees ns x i → HasPlacesBelow (length trees) (length ns) x
  item_below ns (I.Block b) i h = tt
  item_below ns (I.Event o types ks) (M.Event p ty tys us) h = ((slice_get_within trees types.result.0 ty h.1, all_types_below trees types.operands tys h.2), all_below ns ks.items us h.3)
  item_below ns (I.Event o types ks) (M.Entered c) h = elim h [ ]

  pub items_below : (ns : List TermNode) (xs : List TraceItem) (is : List Item) → Matched (ShowsItem trees ns) xs is → All (HasPlacesBelow (length trees) (length ns)) xs
  items_below ns [] [] h = grind arith
  items_below ns (x ∷ xs) (i ∷ is) h = All-cons (HasPlacesBelow (length trees) (length ns)) x xs (item_below ns x i h.0) (items_below ns xs is h.1)
  items_below ns [] (i ∷ is) h = elim h [ ]
  items_below ns (x ∷ xs) [] h = elim h [ ]

-- ---- a run

module _ (now : Contents) where
  -- a run of which the table alone has grown
  pub grown_at : (r r' : Run) → r'.env ≡ r.env → r'.items ≡ r.items → r'.block ≡ r.block → r'.count ≡ r.count → Keeps now.types r.table r'.table → AreTyped (length now.types) r'.table → (s : State Slot) → IsAt now r s → IsAt now r' s
  grown_at r r' env items block count keeps typed s h = record {
    block = block ∙ h.block;
    count = count ∙ h.count;
    typed = typed;
    constants = λ k t at. keeps k t (h.constants k t at);
    env = λ v. rw env (read_kept now.types r.table r'.table keeps (get same_slot r.env v) (s.env v) (h.env v));
    shown = rw items (items_kept now.types r.table r'.table keeps r.items.items s.shown h.shown);
  }

  -- ---- a value is set

  pub set_at : (r r' : Run) (v : Slot) (k : ℕ) → r'.table ≡ r.table → r'.items ≡ r.items → r'.block ≡ r.block → r'.count ≡ r.count → ((w : Slot) → get same_slot r'.env w ≡ cond (same_slot v w) (Some k) (get same_slot r.env w))
      → (s : State Slot) (t : Term) → IsAt now r s → Names now.types r.table k t → IsAt now r' (M.set_in Slot same_slot s v t)
  set_at r r' v k table items block count updates s t h named = record {
    block = block ∙ h.block;
    count = count ∙ h.count;
    typed = rw table h.typed;
    constants = rw table h.constants;
    env = λ w. rw (table, updates w) (read_set now.types r.table (same_slot v w) k (get same_slot r.env w) t (s.env w) named (h.env w));
    shown = rw (table, items) h.shown;
  }

  -- ---- an item is shown

  pub note_at : (r r' : Run) (x : TraceItem) → r'.table ≡ r.table → r'.env ≡ r.env → r'.block ≡ r.block → r'.count ≡ r.count → r'.items.items ≡ r.items.items ++ x ∷ []
      → (s : State Slot) (i : Item) → IsAt now r s → ShowsItem now.types r.table x i → IsAt now r' (M.shows Slot same_slot s i)
  note_at r r' x table env block count items s i h shows = record {
    block = block ∙ h.block;
    count = count ∙ h.count;
    typed = rw table h.typed;
    constants = rw table h.constants;
    env = λ v. rw (table, env) (h.env v);
    shown = rw (table, items) (matched_push (ShowsItem now.types r.table) r.items.items s.shown x i h.shown shows);
  }

  pub read_none : (r : Run) (s : State Slot) (v : Slot) → IsAt now r s → get same_slot r.env v ≡ None → s.env v ≡ Unset
  read_none r s v h none = subst (λ (o : Option ℕ). Reads now.types r.table o (s.env v)) none (h.env v)

  -- one operand more is read
  pub reads_step : (old new : List TermNode) (env : Slot → Term) (xs : List Source) (i : ℕ) (d : Source) (ks : List ℕ) (k : ℕ) → i < length xs → Keeps now.types old new → AllNamed now.types old ks (map (M.read env) (map (source_of now.terms) (take i xs))) → Names now.types new k (M.read env (source_of now.terms (get_or xs i d)))
      → AllNamed now.types new (ks ++ k ∷ []) (map (M.read env) (map (source_of now.terms) (take (i + 1) xs)))
  reads_step old new env xs i d ks k lt keeps h named =
      subst (AllNamed now.types new (ks ++ k ∷ [])) (sym (take_read (M.read env) (source_of now.terms) xs i d lt))
      (named_push now.types old new ks (map (M.read env) (map (source_of now.terms) (take i xs))) k (M.read env (source_of now.terms (get_or xs i d))) keeps h named)

  -- ---- rows

  -- whether a run has read an unset value is not kept
  pub at_alike : (r : Run) (s s' : State Slot) → s'.block ≡ s.block → ((v : Slot) → s'.env v ≡ s.env v) → s'.count ≡ s.count → s'.shown ≡ s.shown → IsAt now r s → IsAt now r s'
  at_alike r s s' block env count shown h = record {
    block = h.block ∙ sym block;
    count = h.count ∙ sym count;
    typed = h.typed;
    constants = h.constants;
    env = λ v. subst (Reads now.types r.table (get same_slot r.env v)) (sym (env v)) (h.env v);
    shown = subst (Matched (ShowsItem now.types r.table) r.items.items) (sym shown) h.shown;
  }

  pub answered_at : (q r : Run) (s : State Slot) (v : Slot) (i : Item) (n : ℕ) → n ≡ s.count → r.table ≡ q.table → r.env ≡ q.env → r.block ≡ q.block → r.items ≡ q.items → r.count ≡ n + 1
      → IsAt now q (M.set_in Slot same_slot (M.shows Slot same_slot s i) v (Answer n)) → IsAt now r (M.answered Slot same_slot s v i)
  answered_at q r s v i n is table env block items count h =
      let t : Answer n ≡ Answer s.count = ap Answer is in
      record {
        block = block ∙ h.block;
        count = omega (arith, count, is);
        typed = rw table h.typed;
        constants = rw table h.constants;
        env = λ w. rw (table, env) (subst (λ (t : Term). Reads now.types q.table (get same_slot q.env w) (M.set Slot same_slot s.env v t w)) t (h.env w));
        shown = rw (table, items) h.shown;
      }

  module _ (r : Run) (s : State Slot) (v : Slot) (o : Op) (types : Types) (operands : List Source) where
    abbrev ts : List Term
    ts = map (M.read s.env) (map (source_of now.terms) operands)

    abbrev event : Item
    event = M.Event o (type_at now.types types.result) (map (type_at now.types) types.operands) ts

    abbrev effect_by : Family → State Slot
    effect_by f = M.effect Slot same_slot (M.reads Slot same_slot s ts) v event (made_by f o (type_at now.types types.result) ts)

    pub built_at : is_built (family o) ≡ true → IsAt now r (M.set_in Slot same_slot s v (Expr o (type_at now.types types.result) (terms_of ts)))
        → IsAt now r (M.apply Slot same_slot s v (action_of now (A.Applies o types operands)))
    built_at silent h =
        subst (λ (f : Family). IsAt now r (effect_by f)) (sym (builds (family o) silent)) (at_alike r (M.set_in Slot same_slot s v (Expr o (type_at now.types types.result) (terms_of ts))) (effect_by Builds) refl (λ w. refl) refl refl h)

    pub shown_at : is_built (family o) ≡ false → IsAt now r (M.answered Slot same_slot s v event) → IsAt now r (M.apply Slot same_slot s v (action_of now (A.Applies o types operands)))
    shown_at shows h =
        subst (λ (f : Family). IsAt now r (effect_by f)) (sym (not_built (family o) shows)) (at_alike r (M.answered Slot same_slot s v event) (effect_by Shows) refl (λ w. refl) refl refl h)

  pub straight_step : (s : State Slot) (rows : List Row) (i : ℕ) (d : Row) → i < length rows → M.straight Slot same_slot s (map (row_of now) (take (i + 1) rows)) ≡ M.apply Slot same_slot (M.straight Slot same_slot s (map (row_of now) (take i rows))) (get_or rows i d).result (action_of now (get_or rows i d).action)
  straight_step s rows i d lt = ap (M.straight Slot same_slot s) (take_push (row_of now) rows i d lt) ∙ straight_push s (map (row_of now) (take i rows)) (row_of now (get_or rows i d))

-- ---- the types of an event

-- those of which each is there stand
pub shown_types : (trees : List TypeTree) (types : Types) → HasTypesBelow (length trees) types → AllStand trees types.operands (map (type_at trees) types.operands)
shown_types trees types below = each types.operands below.1
  where
    each : (ts : List LLVMType) → All (λ (t : LLVMType). t.0 < length trees) ts → AllStand trees ts (map (type_at trees) ts)
    each [] h = tt
    each (t ∷ ts) h =
        (slice_get-get_or trees t.0 VoidType (All-head (λ (t : LLVMType). t.0 < length trees) t ts h), each ts (All-tail (λ (t : LLVMType). t.0 < length trees) t ts h))
