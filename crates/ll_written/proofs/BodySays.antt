-- What the tokens of instructions and bodies say.
use Rattle.std.proofs.Common.{◌≡◌, List, [], ◌∷◌, map, Option, Some, None, codes, refl, ap}
use Rattle.std.specs.List.{flat_map, AllByRecursion}
use Rattle.kinds.specs.Types.{TypeTree}
use Rattle.kinds.specs.Held.{IsFirstClass}
use Rattle.ll_lines.specs.Lines as L
use Rattle.ll_lines.specs.Lines.{Text, Incoming, Inst, Line, Part}
use Rattle.ll_literals.specs.Chain.{◌>>=◌}
use Rattle.ll_values.specs.Values.{EntryV, EntriesV, InstV, PartV, BodyV, Entry, incoming}
use Rattle.ll_written.specs.Rules as N
use Rattle.ll_written.specs.Written.{indent, written_entry, next_entry, written_inst, written_behind, written_line, written_part, next_part, written_body}
use Rattle.ll_written.specs.Writable.{IsIncoming, IsInst, IsLine, IsPart}
use Rattle.ll_written.proofs.Productions as P
use Rattle.ll_written.proofs.Productions.{Reads}
use Rattle.ll_written.proofs.TypeTokens.{type_says}
use Rattle.ll_written.proofs.ValueSays.{literal_of, said_says, said_again}
use Rattle.ll_written.proofs.RowSays.{row_says}

-- an entry as it is written
abbrev entry_of : Incoming → Entry
entry_of e = record { literal = literal_of e.said; block = e.block }

-- entries say themselves at the type of their phi
entries_again : (τ : TypeTree) (es : List Incoming) → IsFirstClass τ → AllByRecursion (IsIncoming τ) es → incoming τ (map entry_of es) ≡ Some es
entries_again τ [] type all = refl
entries_again τ (e ∷ es) type all = rw (said_again τ e.said type all.0.said, entries_again τ es type all.1) refl

-- ---- instructions

entry_says : (τ : TypeTree) (e : Incoming) → IsIncoming τ e → Reads N.entry (EntryV (entry_of e)) (written_entry e)
entry_says τ e h = P.entry (codes " ") [] (codes " ") e.block (codes " ") (said_says τ e.said h.said) refl

entries_say : (τ : TypeTree) (es : List Incoming) → AllByRecursion (IsIncoming τ) es → Reads N.more_entries (EntriesV (map entry_of es)) (flat_map next_entry es)
entries_say τ [] all = P.more_entries_end refl
entries_say τ (e ∷ es) all = P.more_entries_entry_or_node [] (P.entry_or_node_more (entry_says τ e all.0) (entries_say τ es all.1) refl)

phi_says : (b : Text) (τ : TypeTree) (es : List Incoming) → IsInst (L.Phi τ es) → Reads N.inst (InstV (L.Phi τ es)) (written_inst b (L.Phi τ es))
phi_says b τ [] h = absurd (h.2 refl)
phi_says b τ (e ∷ es) h =
    P.inst_phi b (type_says (codes " ") τ h.0) (entry_says τ e h.1.0) (entries_say τ es h.1.1) (ap (λ (o : Option (List Incoming)). o >>= λ xs. Some (InstV (L.Phi τ xs))) (entries_again τ (e ∷ es) h.0.type h.1))

pub inst_says : (b : Text) (i : Inst) → IsInst i → Reads N.inst (InstV i) (written_inst b i)
inst_says b (L.Phi τ es) h = phi_says b τ es h
inst_says b (L.Row r) h = row_says b r h

line_by : (result : Option Text) (i : Inst) → IsInst i → Reads N.body_part (PartV (L.Does (record { result = result; inst = i }))) (written_behind result i)
line_by None i h = P.body_part_bare (inst_says indent i h) refl
line_by (Some t) i h = P.body_part_named indent t (codes " ") (inst_says (codes " ") i h) refl

line_says : (l : Line) → IsLine l → Reads N.body_part (PartV (L.Does l)) (written_line l)
line_says l h = line_by l.result l.inst h.inst

-- ---- bodies

part_says : (b : Text) (p : Part) → IsPart p → Reads N.body_part (PartV p) (written_part b p)
part_says b (L.Label t) h = P.body_part_label b t refl
part_says b (L.Does l) h = line_says l h

parts_say : (ps : List Part) → AllByRecursion IsPart ps → Reads N.body_parts (BodyV ps) (flat_map next_part ps)
parts_say [] all = P.body_parts_end refl
parts_say (p ∷ ps) all = P.body_parts_more (part_says (codes "\n\n") p all.0) (parts_say ps all.1) refl

pub body_says : (ps : List Part) → AllByRecursion IsPart ps → ¬ (ps ≡ []) → Reads N.body (BodyV ps) (written_body ps)
body_says [] all some = absurd (some refl)
body_says (p ∷ ps) all some = P.body_more (part_says (codes "\n") p all.0) (parts_say ps all.1) refl
