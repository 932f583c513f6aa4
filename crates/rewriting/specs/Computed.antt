-- To unfold `computed` is to unfold every definition that the answers rest on: a module is then rewritten by computing. Assumes nothing.
use Rattle.words.specs.Table.{lookup}
use Rattle.words.specs.Word.{kind_of, payload_of, word_of, bit0, bit1, bit2, child_table, children}
use Rattle.records.specs.Forest.{flat, take_f, drop_f, append_f, count_f, any_f, map_f}
use Rattle.records.specs.Prefix.{push, build}
use Rattle.records.specs.Label.{◌∶◌, read_at, repay, become, is, bit, word_at, words, read_from, arity}
use Rattle.output.specs.Overlay.{overlay}
use Rattle.grammar.specs.Grammar.{holds, row, leaf, expressions, one_expression, statements, table, no_row, row_of, allowed, is_symbol}
use Rattle.grammar.specs.Scan.{place, top, places, below, unknown_symbol, too_many_symbols, decorated_constructor, fault_of, fault_at, below_at, judge, refusal, symbols_of as symbolCount}
use Rattle.rewriting.specs.Parts.{tree, is_empty, recount, kids_of, change_kids, any_record, role_of, decorators, undecorate, parameters_of, indexed, of_parameters, bare_parameters, decorators_of, bare_method, bare_field, is_constructor, is_member, is_decorated_member, is_plain_key, first_is_plain, has_plain_key, elements_of, with_elements, symbol_if, id_of, of_elements, has_private_in, has_static, constructor_decorated, first_constructor, bare_first, is_decorated, is_decorated_class, is_live, class_kids, has_constructor, is_refused7}
use Rattle.rewriting.specs.Visit.{sign, signed, class_symbol, plain_name, name_if, name_of, prefix, array, member_call, with_key, called₂, called₁, member_if, member, is_ref, to_alias, renamed, named_symbols, symbols_of, aliased, assignment, block_alias, let_alias, alias_block, call_block, queued, export, first_payload, with_id, decorated_statement, decorated₂, decorated₁, name_class, extend_body, undecorated_if, live_class_if, live_class, dead_class, class_if, whole_module, kept, own, signed_by, since, work, inside, entering, join, ◌then◌, visit, visit_one, outermost, module_of, visit_words, rewritten, reported}
use Rattle.rewriting.specs.Answer.{accepted, refused, turned_back, module_words, report_words, answer_of, lent_after, rewrite_answer, rewrite_lent, report_answer}

unfoldable pub computed : Unit {0}
unfolding flat take_f drop_f append_f count_f any_f map_f push build kind_of payload_of word_of bit0 bit1 bit2 child_table children lookup ◌∶◌ read_at repay become is bit word_at words read_from arity tree is_empty recount kids_of change_kids any_record role_of decorators undecorate parameters_of indexed of_parameters bare_parameters decorators_of bare_method bare_field is_constructor is_member is_decorated_member is_plain_key first_is_plain has_plain_key elements_of with_elements symbol_if id_of of_elements has_private_in has_static constructor_decorated first_constructor bare_first is_decorated is_decorated_class is_live class_kids has_constructor is_refused7 sign signed class_symbol plain_name name_if name_of prefix array member_call with_key called₂ called₁ member_if member is_ref to_alias renamed named_symbols symbols_of aliased assignment block_alias let_alias alias_block call_block queued export first_payload with_id decorated_statement decorated₂ decorated₁ name_class extend_body undecorated_if live_class_if live_class dead_class class_if whole_module kept own signed_by since work inside entering join ◌then◌ visit visit_one outermost module_of visit_words rewritten reported holds row leaf expressions one_expression statements table no_row row_of allowed is_symbol place top places below unknown_symbol too_many_symbols decorated_constructor fault_of fault_at below_at judge refusal symbolCount overlay accepted refused turned_back module_words report_words answer_of lent_after rewrite_answer rewrite_lent report_answer
computed = tt
