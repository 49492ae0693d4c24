-- A text is read as one file at most.
use Rattle.std.proofs.Common.{◌≡◌, ℕ, List, [], ◌∷◌, Option, Some, refl, sym, ap, subst, ◌∙◌}
use Rattle.std.proofs.lemmas.Option.{same_Some}
use Rattle.grammars.specs.Grammar.{Writes}
use Rattle.grammars.specs.declared.symbols.Event.{Event}
use Rattle.grammars.specs.declared.symbols.Symbol.TheVariants.{Rule}
use Rattle.grammars.proofs.GrammarLaws.{one}
use Rattle.llvm_core.specs.Data.{ModuleData}
use Rattle.ll_lines.specs.Lines.{File}
use Rattle.ll_rules.specs.Llvm.{llvm, llvm_tables}
use Rattle.ll_rules.proofs.RightLaws.{llvm_right}
use Rattle.ll_said.specs.Said.{file_of}
use Rattle.ll_said.specs.Sayable.{IsSayableModule}
use Rattle.ll_tokens.specs.declared.tokens.Token.{Token}
use Rattle.ll_values.specs.Folding.{fold}
use Rattle.ll_values.specs.Values.{Value, FileV}
use Rattle.ll_values.specs.declared.form.TheConstants.{KINDS}
use Rattle.ll_written.specs.Printing.{module_text}
use Rattle.ll_written.specs.Reading.{seen, IsReadAs}
use Rattle.ll_written.specs.Rules as N
use Rattle.ll_written.proofs.PrintLaws.{printed_is_read}

first_of : File → Option (List Value) → File
first_of f (Some (FileV h ∷ vs)) = h
first_of f _ = f

same_events : (bytes : List ℕ) (ts us : List Token) (es fs : List Event) → ts ≡ us → Writes llvm (Rule N.file ∷ []) es (seen bytes 0 ts) → Writes llvm (Rule N.file ∷ []) fs (seen bytes 0 us) → es ≡ fs
same_events bytes ts us es fs same first second =
    one llvm llvm_tables llvm_right first fs ((λ c more. refl), tt) (subst (λ (xs : List Token). Writes llvm (Rule N.file ∷ []) fs (seen bytes 0 xs)) (sym same) second)

pub one_file : (bytes : List ℕ) (f h : File) → IsReadAs bytes f → IsReadAs bytes h → f ≡ h
unfolding first_of
one_file bytes f h r q =
    let tokens : r.tokens ≡ q.tokens = same_Some r.tokens q.tokens (sym r.read.cut ∙ q.read.cut) in
    let events : r.events ≡ q.events = same_events bytes r.tokens q.tokens r.events q.events tokens r.read.written q.read.written in
    let folds : fold KINDS bytes r.tokens r.events ≡ fold KINDS bytes q.tokens q.events = ap (λ (ts : List Token). fold KINDS bytes ts r.events) tokens ∙ ap (fold KINDS bytes q.tokens) events in
    ap (first_of f) (sym r.says ∙ folds ∙ q.says)

pub printed_is_one : (d : ModuleData) (f : File) → IsSayableModule d → IsReadAs (module_text d) f → f ≡ file_of d
printed_is_one d f h r = one_file (module_text d) f (file_of d) r (printed_is_read d h)
