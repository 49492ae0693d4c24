-- The text of the tokens of what a text says is read as that.
use Rattle.std.proofs.Common.{◌≡◌, ℕ, suc, ◌+◌, ◌-◌, List, [], ◌∷◌, ◌++◌, length, length-append, take, drop, Some, None, slice_get, append_assoc, refl, sym, ap, ◌∙◌, arith}
use Rattle.std.specs.Option.{option_map}
use Rattle.std.proofs.lemmas.List.{append-nil}
use Rattle.grammars.specs.declared.symbols.Event.{Event}
use Rattle.grammars.specs.declared.symbols.Symbol.TheVariants.{Rule}
use Rattle.ll_classes.specs.Llvm.{llvm_class}
use Rattle.ll_lines.specs.Lines.{File}
use Rattle.ll_rules.specs.Llvm.{llvm}
use Rattle.ll_spacing.specs.Spacing.{Spaced, AreBlanks, text_of, placed}
use Rattle.ll_spacing.proofs.CutLaws.{cut_behind, bytes_there, split_text}
use Rattle.ll_tokens.specs.declared.tokens.Token.{Token}
use Rattle.ll_literals.specs.Chain.{◌>>=◌}
use Rattle.ll_values.specs.declared.form.TheConstants.{KINDS}
use Rattle.ll_values.specs.declared.form.Kind.{Kind}
use Rattle.ll_values.specs.Folding.{fold}
use Rattle.ll_written.specs.Saying.{Stand}
use Rattle.ll_values.specs.Values.{Value, TextV, FileV}
use Rattle.ll_written.proofs.SayingLaws.{events_of}
use Rattle.ll_written.specs.Classed.{all_classed}
use Rattle.ll_written.specs.Reading.{seen, IsReadAs}
use Rattle.ll_written.specs.Rules as N
use Rattle.ll_written.specs.Written.{written, end_of}
use Rattle.ll_written.specs.Writable.{IsWritable}
use Rattle.ll_written.proofs.FileSays.{file_says}
use Rattle.ll_written.proofs.SpacedLaws.{file_spaced}

behind : (done : List Token) (t : Token) (ts : List Token) → slice_get (done ++ t ∷ ts) (length done) ≡ Some t
behind [] t ts = refl
behind (d ∷ ds) t ts = behind ds t ts

module _ (kinds : List Kind) (bytes end : List ℕ) (tokens : List Token) where
  -- tokens that are cut from their text stand there, the first of that number
  stand_from : (xs : List Spaced) (done : List Token) (n at : ℕ) (before : List ℕ) → length done ≡ n → length before ≡ at → tokens ≡ done ++ placed at xs → bytes ≡ before ++ (text_of xs ++ end)
      → Stand kinds bytes tokens (seen bytes n (placed at xs)) (all_classed xs)
  stand_from [] done n at before number len all same = tt
  stand_from (x ∷ xs) done n at before number len all same =
      let rest = text_of xs ++ end in
      let start = at + length x.before in
      let stop = start + length x.text in
      let front = before ++ x.before in
      let t : Token = record { kind = x.kind; start = start; end = stop } in
      let before_len : length front ≡ start = omega (arith, length-append before x.before) in
      let split : bytes ≡ front ++ (x.text ++ rest) = same ∙ split_text before x xs end in
      let text : take (stop - start) (drop start bytes) ≡ x.text = rw split (bytes_there front x.text rest start before_len) in
      let more : length (front ++ x.text) ≡ stop = omega (arith, length-append front x.text) in
      let there : slice_get tokens n ≡ Some t = ap (λ (ts : List Token). slice_get ts n) all ∙ ap (slice_get (done ++ t ∷ placed stop xs)) (sym number) ∙ behind done t (placed stop xs) in
      let next : length (done ++ t ∷ []) ≡ suc n = omega (arith, length-append done (t ∷ [])) in
      let others = stand_from xs (done ++ t ∷ []) (suc n) stop (front ++ x.text) next more (all ∙ sym (append_assoc done (t ∷ []) (placed stop xs))) (split ∙ sym (append_assoc front x.text rest)) in
      (ap (llvm_class x.kind) text, ap (option_map (λ (u : Token). TextV (take (u.end - u.start) (drop u.start bytes)))) there ∙ ap (λ (u : List ℕ). Some (TextV u)) text, others)

whole : (kinds : List Kind) (bytes : List ℕ) (tokens : List Token) (es : List Event) (v : Value) → ((fs : List Event) → fold kinds bytes tokens (es ++ fs) ≡ (fold kinds bytes tokens fs >>= λ us. Some (v ∷ us))) → fold kinds bytes tokens es ≡ Some (v ∷ [])
unfolding fold
whole kinds bytes tokens es v folds = ap (fold kinds bytes tokens) (sym (append-nil es)) ∙ folds []

end_blank : (xs : List Spaced) → AreBlanks (end_of xs)
end_blank [] = refl
end_blank (x ∷ xs) = refl

-- the text of a file's tokens is read as the file
pub written_is_read : (f : File) → IsWritable f → IsReadAs (text_of (written f) ++ end_of (written f)) f
written_is_read f h =
    let xs = written f in
    let bytes = text_of xs ++ end_of xs in
    let tokens = placed 0 xs in
    let stand = stand_from KINDS bytes (end_of xs) tokens xs [] 0 0 [] refl refl refl refl in
    let r = events_of llvm KINDS bytes tokens (Rule N.file ∷ []) (FileV f ∷ []) (all_classed xs) (seen bytes 0 tokens) (file_says f h) stand in
    record {
      tokens = tokens;
      events = r.events;
      read = record { cut = cut_behind None 0 xs (end_of xs) (file_spaced f h) (end_blank xs); written = r.written };
      says = whole KINDS bytes tokens r.events (FileV f) r.folds;
    }
