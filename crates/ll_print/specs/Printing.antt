-- The text that is printed of module data: the definitions of the crates below, and what is asked besides.
use Rattle.std.specs.Prelude.{◌≡◌, [], ◌∷◌, ◌++◌}
use Rattle.ll_literals.specs.Text.{Text}
pub use Rattle.ll_said.specs.Naming.{Unnamed, ParamAt, BlockOf, ResultOf, same_unnamed, if_unnamed, unnamed_params, unnamed_result, unnamed_block, unnamed_in, unnamed_number, local_text, result_name, block_name, block_ref}
pub use Rattle.ll_written.specs.Printing.{floating_text, other_text, space_text, vector_open, struct_open, struct_close, counted_text, before_brace, type_text, fields_text, next_fields_text, signed_text, int_text, filled_text, plain_text, said_type, brackets_open, brackets_close, said_text, elements_text, next_elements_text, const_text, operand_text, value_text, flag_text, predicate_text, entry_text, next_entry_text, entries_text, operands_text, returned_text, target_text, targets_text, values_text, to_text, before_text, after_text, align_text, flagged_text, row_head, row_names, row_text, instruction_text, gives_text, placed_text, label_text, block_text, entry_label_text, blocks_text, comma_text, params_text, head_text, function_text, source_text, body_text, struct_text, structs_text, module_text}

-- the last line of a text has an end
abbrev pub EndsLine : Text → Type 0
EndsLine text = (front : Text) × (text ≡ front ++ 10 ∷ [])
