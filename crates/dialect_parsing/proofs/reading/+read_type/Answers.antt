-- What was read is written so, and what is refused is no type.
use Rattle.std.proofs.Common.{◌≡◌, ◌<◌, ◌+◌, ◌∷◌, Err, length, sym, subst, ap, ◌∙◌, arith, rules}
use Rattle.std.proofs.lemmas.Result.{IfOk-weaker}
use Rattle.kinds.specs.Types.{depth}
use Rattle.dialect_types.specs.declared.types.TypeHandle.{TypeHandle}
use Rattle.dialect_types.specs.Trees.{TypeTree, FunctionType, type_at, types_at, type_tree, type_trees, structs_of}
use Rattle.dialect_parsing.specs.Reading.{IsRead}
use Rattle.dialect_parsing.specs.declared.parse_err.Refused.TheVariants.{Syntax}
use Rattle.dialect_parsing.specs.declared.symbol.Symbol.TheVariants as S
use Rattle.dialect_parsing.proofs.ReadingLaws.{read_shorter, read_still, no_type_still, list_still, no_list_still}
use Rattle.dialect_parsing.proofs.StoreLaws.{grown_trees, grows_then}
use Rattle.dialect_parsing.proofs.PartLaws.{no_bracket, struct_ends, struct_fits, func_by, func_nexts, func_lists, func_ends}
use Rattle.dialect_parsing.proofs.ListLaws.{next_read, no_comma, no_next}
use Rattle.dialect_parsing.proofs.reading.+read_type.Goals as goal

-- ---- types without parts

pub read_type-made-requires : goal.read_type-made-requires
read_type-made-requires t c =
    let e = c.in_ok-kind-in_default-first.ensures in
    let k = e.kind (structs_of c.args.types.now) (type_trees c.args.types.now) (length c.args.types.now) in
    let flat = k.3 in
    record { parts = k.0; fit = k.1; nesting = omega arith; unnamed = e.unnamed }

pub read_type-returns-in_ok-kind-in_default-first-clause-ok : goal.read_type-returns-in_ok-kind-in_default-first-clause-ok
read_type-returns-in_ok-kind-in_default-first-clause-ok t c =
    let ts = type_trees c.args.types.now in
    let structs = structs_of c.args.types.now in
    let kind = c.in_ok-kind-in_default-first.kind in
    let k = c.in_ok-kind-in_default-first.ensures.kind structs ts (length c.args.types.now) in
    let is = c.in-Some.ensures ∙ c.in_ok-kind-in_default-first.ensures.ok ts in
    let flat = k.3 in
    let room = c.if-room-eq0.false in
    let new = type_trees c.made.new.types in
    let read : IsRead structs c.args.room c.args.symbols.now (type_tree ts kind) c.plain.new.symbols = record { is = is; fine = k.2; fits = omega arith } in
    IfOk-weaker c.made.result (λ (h : TypeHandle). type_at new h ≡ type_tree ts kind) (λ (h : TypeHandle). IsRead structs c.args.room c.args.symbols.now (type_at new h) c.plain.new.symbols)
    (λ h tree. subst (λ (u : TypeTree). IsRead structs c.args.room c.args.symbols.now u c.plain.new.symbols) (sym tree) read) c.made.ensures.tree

pub read_type-returns-in_ok-kind-in_default-first-clause-err : goal.read_type-returns-in_ok-kind-in_default-first-clause-err
read_type-returns-in_ok-kind-in_default-first-clause-err t c h = absurd (c.made.ensures.err h)

-- ---- so many of one type

pub counted-returns-in_err-expect-clause-err : goal.counted-returns-in_err-expect-clause-err
counted-returns-in_err-expect-clause-err t c = λ _. no_bracket (structs_of c.args.types.now) c.args.room _ _ _ _ _ c.in_ok-count.ensures.ok c.in_ok-element.ensures.ok c.in_err-expect.ensures.err

-- ---- structs

pub literal-returns-in_err-expect-clause-err : goal.literal-returns-in_err-expect-clause-err
literal-returns-in_err-expect-clause-err t c = λ _. struct_ends (structs_of c.args.types.now) c.args.room _ _ _ _ _ c.in_ok-layout.ensures.ok c.in_ok-fields.ensures.ok c.in_err-expect.ensures.err

pub literal-returns-clause-err : goal.literal-returns-clause-err
literal-returns-clause-err t c h = struct_fits (structs_of c.args.types.now) c.args.room _ _ _ _ _ c.in_ok-layout.ensures.ok c.in_ok-fields.ensures.ok (c.make_struct.ensures.err h)

-- ---- functions

pub func-returns-in_err-expect-2-clause-err : goal.func-returns-in_err-expect-2-clause-err
func-returns-in_err-expect-2-clause-err t c = λ _. func_nexts (structs_of c.args.types.now) c.args.room _ _ _ _ c.in_ok-expect.ensures.ok c.in_ok-returned.ensures.ok c.in_err-expect-2.ensures.err

pub func-returns-in_err-params-clause-err : goal.func-returns-in_err-params-clause-err
func-returns-in_err-params-clause-err t c h =
    let is : c.in_err-params.field-0.0 ≡ Syntax = search rules in
    let none = no_list_still _ _ c.args.room _ _ c.in_ok-returned.ensures.grows.structs (c.in_err-params.ensures.err (ap Err is)) in
    func_lists (structs_of c.args.types.now) c.args.room _ _ _ _ _ c.in_ok-expect.ensures.ok c.in_ok-returned.ensures.ok c.in_ok-expect-2.ensures.ok none

pub func-returns-in_err-variadic-clause-err : goal.func-returns-in_err-variadic-clause-err
func-returns-in_err-variadic-clause-err t c = λ _.
    let params = list_still _ _ c.args.room _ _ _ _ c.in_ok-returned.ensures.grows.structs c.in_ok-params.ensures.ok in
    func_ends (structs_of c.args.types.now) c.args.room _ _ _ _ _ _ _ c.in_ok-expect.ensures.ok c.in_ok-returned.ensures.ok c.in_ok-expect-2.ensures.ok params c.in_err-variadic.ensures.err

pub func-make_func-requires-clause-nesting : goal.func-make_func-requires-clause-nesting
func-make_func-requires-clause-nesting t c =
    let same = grown_trees _ _ c.in_ok-params.ensures.grows c.in_ok-returned.returned c.in_ok-returned.ensures.within in
    let room = c.requires in
    let deep = c.in_ok-returned.ensures.ok.fits in
    let deeper = c.in_ok-params.ensures.ok.fits in
    (subst (λ (u : TypeTree). depth u < 1000) (sym same) (omega arith), omega arith)

pub func-returns-clause-ok : goal.func-returns-clause-ok
func-returns-clause-ok t c =
    let old = type_trees c.list.new.types in
    let new = type_trees c.make_func.new.types in
    let returned = c.in_ok-returned.returned in
    let same = grown_trees _ _ c.in_ok-params.ensures.grows returned c.in_ok-returned.ensures.within in
    let structs = structs_of c.args.types.now in
    let read = subst (λ (u : TypeTree). IsRead structs c.args.room c.expect.new.symbols u c.read_type.new.symbols) (sym same) c.in_ok-returned.ensures.ok in
    let params = list_still _ _ c.args.room _ _ _ _ c.in_ok-returned.ensures.grows.structs c.in_ok-params.ensures.ok in
    IfOk-weaker c.make_func.result (λ (h : TypeHandle). type_at new h ≡ FunctionType (type_at old returned) (types_at old c.in_ok-params.params) c.in_ok-variadic.variadic)
    (λ (h : TypeHandle). IsRead structs (1 + c.args.room) (S.Func ∷ c.args.symbols.now) (type_at new h) c.func_end.new.symbols)
    (λ h tree. func_by structs c.args.room _ _ _ _ _ _ _ _ _ _ c.in_ok-expect.ensures.ok read c.in_ok-expect-2.ensures.ok params c.in_ok-variadic.ensures.ok tree)
    c.make_func.ensures.tree

-- ---- lists

pub list-returns-in_err-expect-clause-err : goal.list-returns-in_err-expect-clause-err
list-returns-in_err-expect-clause-err t c = λ _.
    let no = c.skip-in-loop-alloc.ensures.no c.loop-alloc-test.true in
    no_comma (structs_of c.args.types.now) c.args.room c.args.close.now _ _ _ _ _ c.requires.close c.loop-alloc.invariant.so no.0 no.1 c.in_err-expect.ensures.err

pub list-returns-in_err-next-clause-err : goal.list-returns-in_err-next-clause-err
list-returns-in_err-next-clause-err t c h =
    let is : c.in_err-next.field-0.0 ≡ Syntax = search rules in
    let no = c.skip-in-loop-alloc.ensures.no c.loop-alloc-test.true in
    let none = no_type_still _ _ c.args.room _ c.loop-alloc.invariant.grows.structs (c.in_err-next.ensures.err (ap Err is)) in
    no_next (structs_of c.args.types.now) c.args.room c.args.close.now _ _ _ _ _ _ c.requires.close c.loop-alloc.invariant.so no.0 c.in_ok-expect.ensures.ok none

pub list-loop-alloc-smaller : goal.list-loop-alloc-smaller
list-loop-alloc-smaller t c =
    let no = c.skip-in-loop-alloc.ensures.no c.loop-alloc-test.true in
    let less = read_shorter _ _ _ _ _ c.in_ok-next.ensures.ok in
    let same = ap length no.0 in
    let comma = ap length c.in_ok-expect.ensures.ok in
    omega arith

pub list-loop-alloc-preserved : goal.list-loop-alloc-preserved
list-loop-alloc-preserved t c =
    let no = c.skip-in-loop-alloc.ensures.no c.loop-alloc-test.true in
    let e = c.in_ok-next.ensures in
    let read = read_still _ _ c.args.room _ _ _ c.loop-alloc.invariant.grows.structs e.ok in
    record {
      so = next_read (structs_of c.args.types.now) c.args.room _ _ _ _ _ _ _ _ _ c.loop-alloc.invariant.so (sym no.0 ∙ c.in_ok-expect.ensures.ok) e.grows e.within read c.in_ok-push-2.ensures.ok;
      grows = grows_then _ _ _ c.loop-alloc.invariant.grows e.grows;
    }
