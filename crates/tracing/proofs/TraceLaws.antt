-- From the trace of a body, as the program keeps it, to that of a function.
use Rattle.std.proofs.Common.{◌≡◌, ◌<◌, ℕ, List, Some, length, map, slice_get, refl, sym, ap, ◌∙◌}
use Rattle.std.proofs.lemmas.Option.{same_Some}
use Rattle.support.proofs.ListLaws.{item_there}
use Rattle.llvm_core.specs.Module.{Module}
use Rattle.llvm_core.specs.Sound.{IsModule}
use Rattle.llvm_core.specs.Data.{Function, data_of}
use Rattle.llvm_core.specs.Checked.{IsChecked}
use Rattle.llvm_core.proofs.DataLemmas.{function_at}
use Rattle.dialect_core.specs.declared.ops.Value.{Value}
use Rattle.dialect_core.specs.ContextData.{ContextData}
use Rattle.dialect_core.specs.Data.{type_in}
use Rattle.meaning.specs.Machine as M
use Rattle.meaning.specs.Machine.{Item}
use Rattle.meaning.specs.Setting.{Setting}
use Rattle.meaning.specs.Llvm as Llvm
use Rattle.meaning.specs.Dialect as Dialect
use Rattle.meaning.specs.Dialect.{same_value}
use Rattle.meaning.specs.Llvm.{Key, ParamKey, ResultKey, same_key}
use Rattle.tracing.specs.declared.body.Slot.{Slot}
use Rattle.tracing.specs.Bodies.{same_slot}
use Rattle.tracing.specs.Renamed.{renamed_code}
use Rattle.tracing.specs.LlvmBodies.{setting_in, slot_of, InChecked, data_in}
use Rattle.tracing.specs.DialectBodies.{InContext}
use Rattle.tracing.specs.DialectBodies.{slot_of as slot_of_value}
use Rattle.tracing.proofs.Renaming.{renamed_trace}
use Rattle.tracing.proofs.DialectLaws.{values_apart}

keys_apart : (a b : Key) → same_slot (slot_of a) (slot_of b) ≡ same_key a b
keys_apart (ParamKey f i) (ParamKey g j) = refl
keys_apart (ResultKey n) (ResultKey k) = refl
keys_apart (ParamKey f i) (ResultKey k) = refl
keys_apart (ResultKey n) (ParamKey g j) = refl

abbrev pub in_checked : (m : Module) (f : ℕ) → IsModule m → IsChecked m → f < length m.functions → InChecked m
in_checked m f sound checked lt = let x = item_there m.functions f lt in record { number = f; function = x.0; sound = sound; checked = checked; at = x.1 }

pub llvm_trace : (m : Module) (h : InChecked m) (x : Function) (cs : List ℕ) (start : Slot → _) (code : List (M.Block Slot)) (items : List Item) → slice_get (data_of m).functions h.number ≡ Some x
    → items ≡ M.trace Slot same_slot start code cs → code ≡ renamed_code slot_of (map (Llvm.block (setting_in m) (data_in m h)) (data_in m h).blocks) → ((k : Key) → start (slot_of k) ≡ Llvm.start (data_in m h) k)
    → items ≡ (Llvm.body (setting_in m) x).trace cs
llvm_trace m h x cs start code items at is code_is same =
    let function = same_Some (data_in m h) x (sym (function_at m h.number h.function h.at) ∙ at) in
    is ∙ ap (λ (c : List (M.Block Slot)). M.trace Slot same_slot start c cs) code_is
    ∙ renamed_trace Key Slot same_key same_slot slot_of keys_apart (map (Llvm.block (setting_in m) (data_in m h)) (data_in m h).blocks) (Llvm.start (data_in m h)) start same cs
    ∙ ap (λ (g : Function). (Llvm.body (setting_in m) g).trace cs) function

pub dialect_trace : (setting : Setting) (c : ContextData) (h : InContext c) (cs : List ℕ) (start : Slot → _) (code : List (M.Block Slot)) (items : List Item)
    → items ≡ M.trace Slot same_slot start code cs → code ≡ renamed_code slot_of_value (map (Dialect.typed_block setting (type_in c) h.function) h.function.blocks) → ((v : Value) → start (slot_of_value v) ≡ Dialect.start h.function.blocks v) → items ≡ (Dialect.typed_body setting (type_in c) h.function).trace cs
dialect_trace setting c h cs start code items is code_is same =
    is ∙ ap (λ (c : List (M.Block Slot)). M.trace Slot same_slot start c cs) code_is
    ∙ renamed_trace Value Slot same_value same_slot slot_of_value values_apart (map (Dialect.typed_block setting (type_in c) h.function) h.function.blocks) (Dialect.start h.function.blocks) start same cs
