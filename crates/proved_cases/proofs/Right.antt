-- Every case of the table is right: one computation over the whole of it.
use mathlib.Core.Path.{◌≡◌, refl}
use mathlib.Core.List.{map, flat_map, flatten}
use Rattle.number.specs.Number.{number_at, bit_groups_at, last_byte, followed, added_to, bytes_of, bit_groups_of}
use Rattle.coordinates.specs.Coordinates.{apart}
use Rattle.table.specs.Columns.{rows_from, put}
use Rattle.table.specs.Check.{some_row, some_pair, lengths_bad, count_bad, value_bad, same_id, ranges_meet, sound_rows, checked}
use Rattle.fresh.specs.Fresh.{fresh_rows}
use Rattle.order.specs.Order.{subgroup, order_by, row_of, order_in, order}
use Rattle.request.specs.Entries.{some_entry}
use Rattle.request.specs.Reading.{positive_at, entry_at, trees_by, tree_by, not_full, trees_at, direction_of, request_of}
use Rattle.request.specs.Acceptance.{accepted}
use Rattle.refine.specs.Refine.{refine_rows, exploded_rows, refined}
use Rattle.grant.specs.Grant.{grant_bad, checked_grant, grant_at, grants_from, grants_by, grant_bytes, grants_bytes}
use Rattle.matching.specs.Matching.{windows, applies_to}
use Rattle.renewals.specs.Dating.{is_open, runs, has_ended, yet_to_begin, those, some_open, greatest_last, least_first, not_on, prolonged, run_from, dated}
use Rattle.decide.specs.Decision.{question_bad, decided}
use Rattle.ledger.specs.Ledger.{fresh_ledger, accepted_by, is_other, stays_below, below_entries, above_entries, itself, by_trees, order_after, replace, exploded_ledger, ledger_refined, ledger_order}
use Rattle.ledger.specs.Calls.{engine_reply, engine_after, engine_replies, engine_end, engine_start, ledger_reply, ledger_after, ledger_replies, ledger_end, explodes, exploded_in}
use Rattle.ledger.specs.Decisions.{group_grant_bad, some_group_grant_bad, applies_by, ledger_decided}
use Rattle.text.specs.Decimal.{digits, decimal}
use Rattle.request_log.specs.Log.{pair_of, part_at, part_then, requests_from, requests_at, requests_bytes}
use Rattle.decision_line.specs.DecisionText.{decision_text}
use Rattle.lines.specs.Lines.{field_text, line_text, heading_text, row_text, table_text}
use Rattle.calendar.specs.Calendar.{leap, month_days, tomorrow, date_after, date_of}
use Rattle.dates.specs.Dates.{two, date_text}
use Rattle.board.specs.Board.{right_in, left_in, last_text, state_text, field, grant_line, undated}
use Rattle.page.specs.Page.{dated_grant_at, applying, page_text, page_of}
use Rattle.request.specs.Bytes.{trees_bytes, request_bytes}
use Rattle.small.specs.Shapes.{shapes}
use Rattle.small.specs.Small.{small_of, small, listed, list_bytes}
use Rattle.reflected_tree.specs.Written.{list_bytes as tree_list_bytes}
use Rattle.reflected_tree.specs.Table2.{table2}
use Rattle.reflected_tree.specs.Reading.{node_at, node_left, node_trees_at, tree_of, reflected_of, id_repeats}
use Rattle.replay.specs.Run.{answers_to, table_end}
use Rattle.replay.specs.Replay.{end_text, replay_from, replay_of, text_of}
use Rattle.proved_cases.specs.Cases.{computed, stated}
use Rattle.proved_cases.specs.Table.{cases, beside_request, upright_request, inverted_request, ten_of3, figure_c, tree_c, list_c, figure_d, tree_d, list_d, first9, second9, third9, fourth9, log9, lines9, rows9, calls9, replies9, requests9}

pub cases_right : map computed cases ≡ map stated cases
unfolding cases beside_request upright_request inverted_request ten_of3 figure_c tree_c list_c figure_d tree_d list_d first9 second9 third9 fourth9 log9 lines9 rows9 calls9 replies9 requests9 number_at bit_groups_at last_byte
    followed added_to bytes_of bit_groups_of rows_from put some_row some_pair lengths_bad count_bad value_bad same_id ranges_meet apart sound_rows checked fresh_rows
    subgroup order_by row_of order_in order grant_bad checked_grant grant_at grants_from grants_by grant_bytes grants_bytes windows applies_to is_open runs has_ended
    yet_to_begin those some_open greatest_last least_first not_on prolonged run_from dated question_bad decided positive_at entry_at trees_by tree_by not_full trees_at direction_of request_of some_entry
    accepted refine_rows exploded_rows refined engine_reply engine_after engine_replies engine_end engine_start fresh_ledger accepted_by is_other stays_below
    below_entries above_entries itself by_trees order_after replace exploded_ledger ledger_refined ledger_order ledger_reply ledger_after ledger_replies ledger_end
    digits decimal field_text line_text heading_text row_text table_text decision_text flat_map pair_of part_at part_then requests_from requests_at answers_to
    table_end end_text replay_from replay_of text_of explodes exploded_in group_grant_bad some_group_grant_bad applies_by ledger_decided leap month_days
    tomorrow date_after date_of two date_text right_in left_in last_text state_text field grant_line undated dated_grant_at applying page_text page_of flatten
    trees_bytes request_bytes shapes small_of small listed list_bytes requests_bytes tree_list_bytes table2 node_at node_left node_trees_at tree_of reflected_of id_repeats
cases_right = refl
