-- Two real runs that meet every premise of `two_runs` and differ in order, computed.
use mathlib.Core.Path.{◌≡◌, refl}
use Prim.Native.Nat.{ℕ}
use native.Mathlib.Omega.{arith}
use mathlib.Core.List.{List, []}
use borrow.Author.Tests.{ne_eqb}
use Rattle.std.specs.Prelude.{Option, Some, None}
use Rattle.numbers.specs.Fields.{bytes_of, field_at, front}
use Rattle.text.specs.Names.{name_of, name_read, text_of}
use Rattle.text.specs.Words.{same, text, which}
use Rattle.amf0.specs.Bodies.{checked, place_of, row_f}
use Rattle.amf0.specs.Plain.{plain_at, property_at}
use Rattle.amf0.specs.Properties.{better, last, last_f, last_property, pair_at}
use Rattle.amf0.specs.Reading.{by_marker, extent_at, name_at, past, read_at}
use Rattle.amf0.specs.Skipping.{pairs_f, skip_v, values_f}
use Rattle.amf0.specs.Writing.{encode_of}
use Rattle.wishes.specs.Commands.{command_wish}
use Rattle.wishes.specs.Connect.{without_slash}
use Rattle.wishes.specs.Values.{value_of}
use Rattle.wishes.specs.Wish.{whole_body}
use Rattle.record.specs.Clock.{time_of}
use Rattle.record.specs.Records.{chunk_size_record, command, connect_accepted, connected_row, error_record, four_records, header, number_row, peer_bandwidth_record, publish_accepted, record_of, start_records, status_record, status_row, stream_created, user_control, window_size_record}
use Rattle.answers.specs.Sending.{sent}
use Rattle.tables.specs.Tables.{change, changed, has, look, remove, removed, sound, table_sound}
use Rattle.tables.specs.declared.requests.RequestKind.TheVariants.{Connect, Publish}
use Rattle.session.specs.Changes.{applied}
use Rattle.session.specs.Desk.{desk_of}
use Rattle.session.specs.State.{connected, session_sound, with_changed, with_request, with_stream, without_request}
use Rattle.streams.specs.Streams.{create_stream, frame_of}
use Rattle.steps.specs.Commands.{request_room}
use Rattle.steps.specs.Deciding.{decide, decided}
use Rattle.decisions.specs.Answers.{accept_request, reject_request}
use Rattle.sending.specs.Sends.{sends_ping}
use Rattle.replies.specs.Answers.{answered}
use Rattle.replies.specs.Finishing.{finishing}
use Rattle.replies.specs.Replies.{short}
use Rattle.messages.specs.Messages.{by_type, guarded, handle_media}
use Rattle.calls.specs.Calls.{starting}
use Rattle.story.specs.Steps.{Response, step}
use Rattle.story.specs.Doings.{message_doing}
use Rattle.story.specs.Runs.{after, told}
use Rattle.story.specs.History.{filed, joined}
use Rattle.story.specs.Orders.{Alike, Each, Finds, HasRoom, NoConnect, Once, Permuted, Premises, creations_in, go, keep, mine, request_in, swap, trans, under}
use Rattle.story.specs.Witness.{begin, common, connect_body, create_body, one, publish_body, two}
use Rattle.story.proofs.LookLaws.{same_or}
use Rattle.story.proofs.OrderTheorems.{two_runs}

-- ---- every premise
connect_accepted_lem : joined (told begin common) ≡ Some (name_of (text "live"))
unfolding joined filed after told step guarded by_type message_doing starting sent start_records four_records chunk_size_record window_size_record peer_bandwidth_record user_control record_of header bytes_of front finishing answered applied desk_of decided decide connected session_sound table_sound sound has look change changed remove removed with_stream with_changed with_request without_request create_stream request_room accept_request reject_request connect_accepted connected_row command encode_of name_of time_of connect_body create_body publish_body command_wish whole_body checked row_f skip_v values_f pairs_f extent_at read_at past by_marker name_at field_at place_of plain_at property_at better last last_f pair_at last_property without_slash name_read value_of same which
connect_accepted_lem = refl

tags : Once one
unfolding under
tags = (refl, (refl, (refl, (refl, (refl, (refl, (refl, tt)))))))

same_steps_lem : Permuted one two
same_steps_lem = trans (swap _ _ _) (keep _ (keep _ (keep _ (keep _ (swap _ _ _)))))

same_order_lem : (x : ℕ) → mine (after begin common) x one ≡ mine (after begin common) x two
unfolding after told step guarded by_type message_doing starting sent start_records four_records chunk_size_record window_size_record peer_bandwidth_record user_control record_of header bytes_of front finishing answered applied desk_of decided decide connected session_sound table_sound sound has look change changed remove removed with_stream with_changed with_request without_request create_stream request_room accept_request reject_request connect_accepted connected_row command encode_of name_of time_of connect_body create_body publish_body command_wish whole_body checked row_f skip_v values_f pairs_f extent_at read_at past by_marker name_at field_at place_of plain_at property_at better last last_f pair_at last_property without_slash name_read value_of same which go under mine creations_in stream_created number_row publish_accepted status_record status_row error_record short frame_of handle_media sends_ping
same_order_lem x =
    same_or 1 x (mine (after begin common) x one ≡ mine (after begin common) x two) (λ e. rw (← e))
    (λ h. same_or 2 x (mine (after begin common) x one ≡ mine (after begin common) x two) (λ e. rw (← e)) (λ k. simp (ne_eqb 1 x h, ne_eqb 2 x k)))

not_connect : Publish ≡ Connect → ⊥
not_connect e = cc

no_connect_lem : Each (NoConnect (after begin common)) one × Each (NoConnect (after begin common)) two
unfolding after told step guarded by_type message_doing starting sent start_records four_records chunk_size_record window_size_record peer_bandwidth_record user_control record_of header bytes_of front finishing answered applied desk_of decided decide connected session_sound table_sound sound has look change changed remove removed with_stream with_changed with_request without_request create_stream request_room accept_request reject_request connect_accepted connected_row command encode_of name_of time_of connect_body create_body publish_body command_wish whole_body checked row_f skip_v values_f pairs_f extent_at read_at past by_marker name_at field_at place_of plain_at property_at better last last_f pair_at last_property without_slash name_read value_of same which go under mine creations_in stream_created number_row publish_accepted status_record status_row error_record short frame_of handle_media sends_ping
no_connect_lem = ((tt, (not_connect, (tt, (not_connect, (tt, (tt, (tt, tt))))))), (not_connect, (tt, (tt, (not_connect, (tt, (tt, (tt, tt))))))))

has_room : Each (HasRoom (after begin common)) one × Each (HasRoom (after begin common)) two
unfolding after told step guarded by_type message_doing starting sent start_records four_records chunk_size_record window_size_record peer_bandwidth_record user_control record_of header bytes_of front finishing answered applied desk_of decided decide connected session_sound table_sound sound has look change changed remove removed with_stream with_changed with_request without_request create_stream request_room accept_request reject_request connect_accepted connected_row command encode_of name_of time_of connect_body create_body publish_body command_wish whole_body checked row_f skip_v values_f pairs_f extent_at read_at past by_marker name_at field_at place_of plain_at property_at better last last_f pair_at last_property without_slash name_read value_of same which go under mine creations_in stream_created number_row publish_accepted status_record status_row error_record short frame_of handle_media sends_ping
has_room = ((refl, (refl, (refl, (refl, (refl, (refl, (refl, tt))))))), (refl, (refl, (refl, (refl, (refl, (refl, (refl, tt))))))))

finds : Each (Finds (after begin common)) one × Each (Finds (after begin common)) two
unfolding after told step guarded by_type message_doing starting sent start_records four_records chunk_size_record window_size_record peer_bandwidth_record user_control record_of header bytes_of front finishing answered applied desk_of decided decide connected session_sound table_sound sound has look change changed remove removed with_stream with_changed with_request without_request create_stream request_room accept_request reject_request connect_accepted connected_row command encode_of name_of time_of connect_body create_body publish_body command_wish whole_body checked row_f skip_v values_f pairs_f extent_at read_at past by_marker name_at field_at place_of plain_at property_at better last last_f pair_at last_property without_slash name_read value_of same which go under mine creations_in stream_created number_row publish_accepted status_record status_row error_record short frame_of handle_media sends_ping
finds =
    ((tt, (((_, refl), omega arith), (tt, (((_, refl), omega arith), (tt, (tt, (tt, tt))))))), (((_, refl), omega arith), (tt, (tt, (((_, refl), omega arith), (tt, (tt, (tt, tt))))))))

-- two real runs that meet every premise
pub premises_can_be_met : (joined (told begin common) ≡ Some (name_of (text "live"))) × Premises (after begin common) one two
premises_can_be_met = (connect_accepted_lem, record { tags = tags; same_steps = same_steps_lem; same_order = same_order_lem; no_connect = no_connect_lem; has_room = has_room; finds = finds })

pub alike : Alike (after begin common) one two
alike = two_runs begin common (name_of (text "live")) one two connect_accepted_lem premises_can_be_met.1

-- and they differ: the publish on stream 1 is request 1 in the one run and request 2 in the other; in both the frame is filed under its key
abbrev numbers : Option Response → Option ℕ
numbers None = None
numbers (Some r) = request_in r.event

abbrev keys : Option Response → List ℕ
keys None = []
keys (Some r) = text_of r.key

pub they_differ : (numbers (under 2 (go (after begin common) one).1) ≡ Some 1) × (numbers (under 2 (go (after begin common) two).1) ≡ Some 2)
    × (keys (under 5 (go (after begin common) one).1) ≡ text "pin7") × (keys (under 5 (go (after begin common) two).1) ≡ text "pin7")
unfolding after told step guarded by_type message_doing starting sent start_records four_records chunk_size_record window_size_record peer_bandwidth_record user_control record_of header bytes_of front finishing answered applied desk_of decided decide connected session_sound table_sound sound has look change changed remove removed with_stream with_changed with_request without_request create_stream request_room accept_request reject_request connect_accepted connected_row command encode_of name_of time_of connect_body create_body publish_body command_wish whole_body checked row_f skip_v values_f pairs_f extent_at read_at past by_marker name_at field_at place_of plain_at property_at better last last_f pair_at last_property without_slash name_read value_of same which go under mine creations_in stream_created number_row publish_accepted status_record status_row error_record short frame_of handle_media sends_ping
they_differ = (refl, refl, refl, refl)
