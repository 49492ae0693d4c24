-- What is read, and why a text is refused.
use Rattle.std.proofs.Common.{◌≡◌, ◌≢◌, ℕ, suc, ◌+◌, List, [], ◌∷◌, length, None, Some, refl, sym, ap, subst, ◌∙◌}
use Rattle.std.specs.List.{AllByRecursion}
use Rattle.std.proofs.lemmas.List.Elements.{All-from_recursion}
use Rattle.std.proofs.lemmas.Option.{same_Some}
use Rattle.grammars.specs.declared.grammar.Grammar as code
use Rattle.grammars.specs.declared.symbols.Event.{Event}
use Rattle.grammars.specs.declared.symbols.Symbol.TheVariants.{Rule}
use Rattle.grammars.specs.declared.symbols.Token as symbols
use Rattle.grammars.specs.FlatGrammar.{grammar_of}
use Rattle.grammars.specs.Grammar.{Grammar, Writes}
use Rattle.llvm_core.specs.declared.check_err.CheckErr.{CheckErr}
use Rattle.llvm_core.specs.declared.check_err.CheckErr.TheVariants.{NoMemory}
use Rattle.llvm_core.specs.Module.{Module}
use Rattle.llvm_core.specs.Sound.{IsModule}
use Rattle.llvm_core.specs.Checked.{IsChecked, MayAnswer}
use Rattle.llvm_core.specs.Data.{ModuleData, data_of}
use Rattle.llvm_core.specs.Form.{IsForm, HasDistinctNames, HasFew}
use Rattle.llvm_core.proofs.ApartLemmas.{apart}
use Rattle.llvm_core.proofs.DistinctLaws.{distinct_of_checked, few_of_checked}
use Rattle.llvm_core.proofs.FormLaws.{checked_of_form}
use Rattle.ll_rules.specs.Llvm.{llvm, llvm_tables}
use Rattle.ll_rules.proofs.RightLaws.{llvm_right}
use Rattle.grammars.proofs.GrammarLaws.{one}
use Rattle.ll_classes.specs.Classes.{names, words}
use Rattle.ll_classes.specs.declared.words.Words.{Words}
use Rattle.ll_classes.specs.Llvm.{llvm_class, llvm_names, llvm_rows}
use Rattle.ll_classes.proofs.LlvmLaws.{class_is_llvm}
use Rattle.ll_events.specs.Events as E
use Rattle.ll_events.specs.Events.{AreEvents}
use Rattle.ll_tokens.specs.declared.tokens.Token.{Token}
use Rattle.ll_lines.specs.Lines.{File}
use Rattle.ll_lines.specs.Views.{text_of}
use Rattle.ll_values.specs.declared.form.TheConstants.{KINDS}
use Rattle.ll_values.specs.Values.{FileV}
use Rattle.ll_values.specs.Folding.{fold}
use Rattle.llvm_form.specs.Once.{HasInstsOnce, AreInstsOnce}
use Rattle.llvm_core.specs.Data.{Function}
use Rattle.ll_bodies.specs.Meaning.{file_data}
use Rattle.ll_said.specs.Numbered.{numbered}
use Rattle.ll_said.proofs.TwinLaws.{keeps_form, keeps_names, keeps_few}
use Rattle.ll_said.proofs.OwnLaws.{own_twin}
use Rattle.ll_said.proofs.MeantLaws.{numbers_count}
use Rattle.ll_said.proofs.FileLaws.{counts_of}
use Rattle.ll_said.proofs.CountingLaws.{AreCounted, placed_number, placed_of, counted_distinct, placed_through}
use Rattle.ll_bodies.specs.Meaning.{count_insts}
use Rattle.ll_written.specs.Rules as R
use Rattle.ll_written.specs.Reading.{seen, AreReadAs, IsReadAs}
use Rattle.ll_written.proofs.OneLaws.{one_file}
use Rattle.ll_text.specs.Spelling.{IsNumbered, IsReadable, Means, Spells, IsSpelled}

-- ---- the program's grammar and words

module _ (g : code.Grammar) (w : Words) (grammar_is : grammar_of g ≡ llvm) (rows_are : words w ≡ llvm_rows) (names_are : names w ≡ llvm_names) where
  same_seen : (bytes : List ℕ) (n : ℕ) (ts : List Token) → E.seen w bytes n ts ≡ seen bytes n ts
  same_seen bytes n [] = refl
  same_seen bytes n (t ∷ ts) =
      ap (λ (c : ℕ). record { class = c; at = n } ∷ E.seen w bytes (suc n) ts) (class_is_llvm w rows_are names_are t.kind (text_of bytes (record { start = t.start; end = t.end })))
      ∙ ap (λ (us : List symbols.Token). record { class = llvm_class t.kind (text_of bytes (record { start = t.start; end = t.end })); at = n } ∷ us) (same_seen bytes (suc n) ts)

  pub read_of : (bytes : List ℕ) (ts : List Token) (es : List Event) → AreEvents g w 0 bytes ts es → AreReadAs bytes ts es
  read_of bytes ts es a = record {
    cut = a.tokens;
    written = subst (λ (us : List symbols.Token). Writes llvm (Rule R.file ∷ []) es us) (same_seen bytes 0 ts) (subst (λ (h : Grammar). Writes h (Rule 0 ∷ []) es (E.seen w bytes 0 ts)) grammar_is a.written);
  }

  pub events_of : (bytes : List ℕ) (ts : List Token) (es : List Event) → AreReadAs bytes ts es → AreEvents g w 0 bytes ts es
  events_of bytes ts es r = record {
    tokens = r.cut;
    written = subst (λ (h : Grammar). Writes h (Rule 0 ∷ []) es (E.seen w bytes 0 ts)) (sym grammar_is) (subst (λ (us : List symbols.Token). Writes llvm (Rule R.file ∷ []) es us) (sym (same_seen bytes 0 ts)) r.written);
  }

-- ---- one reading

-- a text is read in one way
one_read : (bytes : List ℕ) (ts us : List Token) (es fs : List Event) → AreReadAs bytes ts es → AreReadAs bytes us fs → (ts ≡ us) × (es ≡ fs)
one_read bytes ts us es fs a b =
    let same : ts ≡ us = same_Some ts us (sym a.cut ∙ b.cut) in
    let v = subst (λ (vs : List Token). Writes llvm (Rule R.file ∷ []) fs (seen bytes 0 vs)) (sym same) b.written in
    (same, one llvm llvm_tables llvm_right a.written fs ((λ c on. refl), tt) v)

-- a text with those events says no file that these do not say
pub no_other : (bytes : List ℕ) (ts : List Token) (es : List Event) → AreReadAs bytes ts es → ((f : File) → fold KINDS bytes ts es ≡ Some (FileV f ∷ []) → ⊥) → (f : File) → ¬ IsReadAs bytes f
no_other bytes ts es a none f r =
    let same = one_read bytes ts r.tokens es r.events a r.read in
    none f (ap (λ (us : List Token). fold KINDS bytes us es) same.0 ∙ ap (fold KINDS bytes r.tokens) same.1 ∙ r.says)

-- a text that is read as a file that means nothing means nothing
pub none_meant : (bytes : List ℕ) (f : File) → IsReadAs bytes f → file_data f ≡ None → (d : ModuleData) → ¬ Means bytes d
none_meant bytes f read none d (g, again, is) = let same = one_file bytes f g read again in absurd (let both : None ≡ Some d = sym none ∙ ap file_data same ∙ is in cc)

-- ---- refusals

-- a module is not checked where the check answers a rule
pub unchecked : (m : Module) (e : CheckErr) → MayAnswer m e → e ≢ NoMemory → ¬ IsChecked m
unchecked m NoMemory h rule checked = rule refl
unchecked m e h rule checked = checked e h

-- a text means one module
pub one_meant : (bytes : List ℕ) (d e : ModuleData) → Means bytes d → Means bytes e → d ≡ e
one_meant bytes d e (f, read, is) (g, again, also) =
    let same = one_file bytes f g read again in
    same_Some d e (sym is ∙ ap file_data same ∙ also)

-- a module that a text means is readable where the text spells a readable one
pub meant_readable : (bytes : List ℕ) (m n : Module) → IsModule m → Means bytes (data_of m) → IsReadable n → Spells bytes (data_of n) → IsReadable m
meant_readable bytes m n sound means readable spelled =
    let d = data_of n in
    let same : data_of m ≡ numbered d = one_meant bytes (data_of m) (numbered d) means spelled in
    let form = subst IsForm (sym same) (keeps_form d readable.form) in
    let names_kept = subst HasDistinctNames (sym same) (keeps_names d readable.form (distinct_of_checked n readable.checked)) in
    let few = subst HasFew (sym same) (keeps_few d readable.form (few_of_checked n readable.checked readable.sound)) in
    record {
      sound = sound;
      checked = checked_of_form m sound (apart m sound) form names_kept few;
      form = form;
    }

-- so what is not readable is spelled by no text
pub unspelled : (bytes : List ℕ) (m : Module) → IsModule m → Means bytes (data_of m) → (IsChecked m → ¬ IsForm (data_of m)) → ¬ IsSpelled bytes
unspelled bytes m sound means refuses (n, readable, spelled) = let r = meant_readable bytes m n sound means readable spelled in refuses r.checked r.form

-- ---- what is read

-- data that a text means and that are of the form are spelled by it
pub meant_spelled : (bytes : List ℕ) (d : ModuleData) → Means bytes d → IsForm d → Spells bytes d
meant_spelled bytes d (f, read, is) form = (f, read, is ∙ ap Some (sym (own_twin d form (numbers_count f d is))))

pub meant_numbered : (bytes : List ℕ) (d : ModuleData) → Means bytes d → IsNumbered d
meant_numbered bytes d (f, read, is) = numbers_count f d is

-- no instruction of what is numbered stands twice
once_from : (f b n : ℕ) (xs : List Function) → AreCounted f b n xs → AllByRecursion HasInstsOnce xs
once_from f b n [] h = tt
once_from f b n (x ∷ xs) h =
    (counted_distinct placed_number n (placed_of x.blocks) (placed_through b n x.blocks h.1).1, once_from (suc f) (b + length x.blocks) (n + count_insts x.blocks) xs h.2)

pub meant_once : (bytes : List ℕ) (d : ModuleData) → Means bytes d → AreInstsOnce d
meant_once bytes d means = All-from_recursion HasInstsOnce d.functions (once_from 0 0 0 d.functions (counts_of d (meant_numbered bytes d means)))
