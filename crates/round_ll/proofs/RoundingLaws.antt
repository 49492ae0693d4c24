-- From what the halves made to what `round` promises.
use Rattle.std.proofs.Common.{ℕ, suc, ◌≡◌, ◌≢◌, ◌<◌, sym, ap, ◌∙◌, subst, List, [], ◌∷◌, ◌++◌, Some, slice_get, length, codes, refl, map, arith}
use Rattle.std.specs.Option.{option_map}
use Rattle.std.proofs.lemmas.Option.{slice_get_within, slice_get-map, same_Some}
use Rattle.std.proofs.lemmas.List.{length-map}
use Rattle.support.proofs.ListLaws.{item_there}
use Rattle.std.specs.Prelude as R
use Rattle.std.specs.Result.{IfErr, IsErrAnd}
use Rattle.std.proofs.lemmas.Result.{err_from_is_err_and}
use Rattle.round_ll.specs.declared.stopped.Stopped.{Stopped}
use Rattle.std.proofs.lemmas.List.Elements.{All-nil, All-cons}
use Rattle.llvm_core.specs.Module.{Module}
use Rattle.llvm_core.specs.Sound.{IsModule}
use Rattle.llvm_core.specs.Checked.{IsChecked}
use Rattle.llvm_core.specs.Form.{IsForm}
use Rattle.held_types.specs.Held.{AreHeld}
use Rattle.llvm_core.specs.Data as L
use Rattle.llvm_core.specs.Data.{ModuleData, data_of}
use Rattle.llvm_core.proofs.DistinctLaws.{distinct_of_checked, few_of_checked}
use Rattle.dialect_types.specs.Names.{IsIdentifier}
use Rattle.dialect_types.specs.Legalised.{Named}
use Rattle.dialect_types.proofs.LegalLaws.{gave_legal}
use Rattle.dialect_core.specs.Data as D
use Rattle.dialect_core.specs.Text.{module_text as dialect_text}
use Rattle.ll_text.specs.Spelling.{Spells, IsNumbered, IsReadable}
use Rattle.from_llvm_ir.specs.declared.matching.FunctionBlocks.{FunctionBlocks}
use Rattle.from_llvm_ir.specs.Imported.{AreImported, NoneImported, ThenImported, seen_by}
use Rattle.renamed_source.specs.Names.{struct_name}
use Rattle.meaning.specs.Renamed.{renamed_function}
use Rattle.dialect_types.specs.Trees.{structs_of}
use Rattle.from_llvm_ir.proofs.NameLaws.{identifier_some}
use Rattle.to_llvm_ir.specs.Held.{IsReadable as IsExportable}
use Rattle.transfer.specs.declared.transferred.Transferred.{Transferred}
use Rattle.transfer.specs.declared.transferring.Begun.{Begun}
use Rattle.transfer.specs.Begun.{IsBegun}
use Rattle.transfer.specs.Same.{SameThroughout, IsCause, back_of, dialect_of, transferred_of}
use Rattle.transfer.specs.declared.transfer_err.TransferErr.{TransferErr}
use Rattle.transfer.specs.declared.transfer_err.TransferErr.TheVariants as T
use Rattle.round_ll.specs.Headline.{IsOutput, Rounds}
use Rattle.round_ll.specs.Report.{AllNamed, report_text}
use Rattle.round_ll.specs.Rounding.{IsEnded, IsPrintable, IsStarted, TextCause}
use Rattle.round_ll.specs.Stopping.{stop_of_transfer}
use Rattle.round_ll.proofs.ReportLaws.{number_within}
use Rattle.renamed_source.specs.Source.{pairs_of}

-- ---- the match names functions

all_named : (m : ℕ) (d : ModuleData) (given : List Named) (fs : List L.Function) (xs : List FunctionBlocks) (gs : List D.Func) → ((i : ℕ) (f : L.Function) → slice_get fs i ≡ Some f → f.number < m) → AreImported d given fs xs gs → AllNamed m xs
all_named m d given [] [] [] small NoneImported = All-nil (λ (b : FunctionBlocks). b.function.0 < m)
all_named m d given (f ∷ fs) (x ∷ xs) (g ∷ gs) small (ThenImported _ _ _ _ _ _ one more) =
    All-cons (λ (c : FunctionBlocks). c.function.0 < m) x xs (subst (λ (n : ℕ). n < m) (sym one.function) (small 0 f refl)) (all_named m d given fs xs gs (λ i y at. small (suc i) y at) more)
all_named m d given [] [] (g ∷ gs) small h = elim h [ ]
all_named m d given [] (x ∷ xs) gs small h = elim h [ ]
all_named m d given (f ∷ fs) [] gs small h = elim h [ ]
all_named m d given (f ∷ fs) (x ∷ xs) [] small h = elim h [ ]

seen_within : (m : Module) (to : List ℕ → List ℕ) (i : ℕ) (f : L.Function) → slice_get (map (renamed_function to) (data_of m).functions) i ≡ Some f → f.number < length m.functions
seen_within m to i f at =
    let small = slice_get_within (map (renamed_function to) (data_of m).functions) i f at in
    let x = item_there (data_of m).functions i (omega (arith, small, length-map (data_of m).functions (renamed_function to))) in
    let there : slice_get (map (renamed_function to) (data_of m).functions) i ≡ Some (renamed_function to x.0) = slice_get-map (renamed_function to) (data_of m).functions i ∙ ap (option_map (renamed_function to)) x.1 in
    let same = same_Some (renamed_function to x.0) f (sym there ∙ at) in
    subst (λ (y : L.Function). y.number < length m.functions) same (number_within m i x.0 x.1)

pub printable : (m : Module) (t : Transferred) → SameThroughout (data_of m) t → IsChecked t.back → IsModule t.back → IsForm (data_of t.back) → IsPrintable t.back
printable m t same checked sound form =
    let legal : IsIdentifier (back_of t).name = subst IsIdentifier (sym same.back_name) (gave_legal same.given m.name (dialect_of t).name same.legalised same.name) in
    record {
      form = form;
      named = identifier_some (back_of t).name legal;
      names = distinct_of_checked t.back checked;
      few = few_of_checked t.back checked sound;
    }

pub begun_named : (m : Module) (b : Begun) → IsBegun m b → AllNamed (length m.functions) b.imported.blocks
begun_named m b h = all_named (length m.functions) (seen_by b.imported (data_of m)) h.imported.given (seen_by b.imported (data_of m)).functions b.imported.blocks (D.data_of b.ctx b.imported.«module».0.0).functions (seen_within m (struct_name (pairs_of b.imported.structs.items))) h.imported.functions

-- ---- the output

pub output_of : (m : Module) (b : Begun) (t : Transferred) (text report all : List ℕ) → t ≡ transferred_of b.ctx b.imported t.back → IsStarted m b text report → IsEnded (back_of t) report text all
    → IsOutput (data_of m) t all
output_of m b t text report all kept started ended = record {
  llvm = ended.llvm;
  printed = ended.printed;
  spells = ended.spells;
  lines = ended.lines;
  whole =
      let made = λ (u : Transferred). dialect_text (structs_of u.ctx.types) (dialect_of u) ++ codes ";; llvm\n" ++ ended.llvm ++ codes ";; report\n" ++ report_text (data_of m) u.structs.items u.blocks in
      ended.whole ∙ ap (λ (front : List ℕ). front ++ ended.llvm ++ codes ";; report\n" ++ report) started.shown
      ∙ ap (λ (r : List ℕ). dialect_text (structs_of b.ctx.types) (D.data_of b.ctx b.imported.«module».0.0) ++ codes ";; llvm\n" ++ ended.llvm ++ codes ";; report\n" ++ r) started.reported
      ∙ ap made (sym kept);
}

-- ---- all that is promised

pub rounds_of : (input : List ℕ) (m : Module) (t boxed : Transferred) (text : List ℕ) → boxed ≡ t → IsReadable m → AreHeld (data_of m) → IsNumbered (data_of m) → Spells input (data_of m)
    → SameThroughout (data_of m) t → IsChecked t.back → IsExportable t.ctx t.dialect.0.0 → IsOutput (data_of m) t text → Rounds input boxed text
rounds_of input m t boxed text is read held numbered spelled same back readable output =
    subst (λ (u : Transferred). Rounds input u text) (sym is)
    (record { source = m; sound = read.sound; checked = read.checked; numbered = numbered; form = read.form; held = held; spelled = spelled; same = same; back_checked = back; readable = readable; output = output })

-- ---- refusals

-- why a text is refused that spells a module with a cause
pub refused_of : (input : List ℕ) (m : Module) (e : TransferErr) → IsReadable m → IsNumbered (data_of m) → Spells input (data_of m) → IsCause (data_of m) e → TextCause input (stop_of_transfer e)
refused_of input m (T.Import x) readable numbered spelled cause = record { source = m; readable = readable; numbered = numbered; spelled = spelled; refusal = tt; cause = cause }
refused_of input m (T.Export x) readable numbered spelled cause = absurd cause
refused_of input m T.NoMemory readable numbered spelled cause = tt

-- what holds of the answer that was given holds of the refusal
pub stopped_by : {T : Type 0} (r : R.Result T Stopped) (e : Stopped) (Q : Stopped → Type 0) → IsErrAnd r (λ (x : Stopped). x ≡ e) → Q e → IfErr r Q
stopped_by r e Q h q = let p = err_from_is_err_and r h in let at : R.Err e ≡ r = ap (λ (x : Stopped). R.Err x) (sym p.2) ∙ sym p.1 in subst (λ x. IfErr x Q) at q
