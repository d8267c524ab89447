-- A change made in the arrays leaves what is kept of the session after that change.
use mathlib.Core.Path.{◌≡◌, refl, sym, ap, ◌∙◌}
use Prim.Native.Nat.{ℕ, ◌-◌, ◌%◌, ◌≤◌, ◌<◌}
use native.Mathlib.Nat.{mod-eq_of_lt}
use native.Mathlib.Omega.{arith}
use mathlib.Core.Bool.{true}
use mathlib.Core.List.{List, [], ◌∷◌, ◌++◌, map}
use lib.Dec.{eqb, leb, ltb}
use lib.ListN.{drop, get_or, length, length-append, length-drop, length-replicate, length-take, replicate, set, take, take-append-drop}
use lib.Seq.{length-take-le, take_all}
use borrow.Author.Tests.{leb-true, ltb-true}
use Rattle.tables.specs.Entries.{no_request, no_stream, request_number, stream_name, stream_number}
use Rattle.tables.specs.Tables.{table_sound}
use Rattle.tables.specs.declared.requests.Request.{Request}
use Rattle.tables.specs.declared.streams.Stream.{Stream}
use Rattle.tables.proofs.SoundLaws.{both}
use Rattle.session.specs.Changes.{applied, applied_by, no_change}
use Rattle.session.specs.State.{app_fits, following, one_more, session_sound, with_changed, with_request, with_stream, without_request, without_stream}
use Rattle.session.specs.declared.changes.Change.{Change}
use Rattle.session.specs.declared.changes.Effect.{Effect}
use Rattle.session.specs.declared.changes.Effect.TheVariants.{Nothing, StreamMade, StreamSet, StreamRemoved, RequestFiled, ConnectFiled, ConnectAccepted, StreamAccepted, RequestRemoved}
use Rattle.session.specs.declared.session.Session.{Session}
use Rattle.std.specs.List.{list_all}
use Rattle.image.specs.Image.{Arrays, Shaped, cell, facts_readable, joined, keys_of, readable_at, request_of, request_readable, requests_at, session_at, sound_at, stream_of, stream_readable, streams_at, titles_of, used_requests, used_streams}
use Rattle.image.proofs.RowsLaws.{all_length, part_length, used_front}
use Rattle.written.specs.Edits.{app_after, applied_at, edited, edited_by, facts_after, in_use, place_in, request_edit, request_place, row_id, stream_edit, stream_place}
use Rattle.written.specs.Kept.{facts_of, kept_at, key_bytes, onto, request_row, requests_of, stream_row, streams_of, title_bytes}
use Rattle.written.proofs.BackLaws.{flag_back, names_back, place_joined, request_back, rows_back, session_back, stream_back, ten}
use Rattle.written.proofs.RoundTheorems.{Tidy}
use Rattle.written.proofs.ColumnLaws.{kept_add, kept_cut, kept_put, kept_same}

-- a count that a test let through
count_fits : {A : Type 0} (l : List A) (blank : A) (n : ℕ) → length l ≡ 16 → leb n (length (take n l ++ replicate (16 - n) blank)) ≡ true → n ≤ 16
count_fits l blank n h e =
    omega (arith, leb-true n (length (take n l ++ replicate (16 - n) blank)) e, length-append (take n l) (replicate (16 - n) blank), length-take n l, length-replicate (16 - n) blank, h)

module _ (facts : List ℕ) (streams requests names : List (List ℕ)) (shape : Shaped facts streams requests names) (ok : sound_at facts streams requests names ≡ true) where
  abbrev s : Session
  s = session_at facts streams requests names

  abbrev a : Arrays
  a = (facts, (streams, (requests, names)))

  abbrev n : ℕ
  n = cell facts 8

  abbrev m : ℕ
  m = cell facts 9

  -- ---- what the tests say
  record Says : Type 0 where
    state : cell facts 2 < 2
    app : cell facts 3 < 2
    next_stream_fits : cell facts 6 < 4294967296
    next_request_fits : cell facts 7 < 4294967296
    stream_rows : list_all stream_readable (take n streams) ≡ true
    request_rows : list_all request_readable (take m requests) ≡ true
    stream_count_fits : n ≤ 16
    request_count_fits : m ≤ 16

  all_streams : length (joined stream_of streams (keys_of names)) ≡ 16
  all_streams = all_length stream_of streams names 2 shape.sixteen_streams (omega (arith, shape.thirty_four))

  all_requests : length (joined request_of requests (titles_of names)) ≡ 16
  all_requests = all_length request_of requests names 18 shape.sixteen_requests (omega (arith, shape.thirty_four))

  says : Says
  unfolding sound_at readable_at facts_readable session_sound session_at table_sound
  says =
      let d = both (readable_at facts streams requests) _ ok in
      let f = both (facts_readable facts) _ d.0 in
      let r = both (list_all stream_readable (take n streams)) _ f.1 in
      let x = both (ltb (cell facts 2) 2) _ f.0 in
      let y = both (ltb (cell facts 3) 2) _ x.1 in
      let z = both (ltb (cell facts 6) 4294967296) _ y.1 in
      let u = both (leb (cell facts 1) 128) _ d.1 in
      let v = both (app_fits (eqb (cell facts 3) 1) (cell facts 4)) _ u.1 in
      let w = both (table_sound stream_number stream_name (cell facts 6 % 4294967296) n (streams_at n streams names)) _ v.1 in
      let p = both (leb n (length (streams_at n streams names))) _ w.0 in
      let q = both (leb m (length (requests_at m requests names))) _ w.1 in
      record {
        state = ltb-true (cell facts 2) 2 x.0;
        app = ltb-true (cell facts 3) 2 y.0;
        next_stream_fits = ltb-true (cell facts 6) 4294967296 z.0;
        next_request_fits = ltb-true (cell facts 7) 4294967296 z.1;
        stream_rows = r.0;
        request_rows = r.1;
        stream_count_fits = count_fits (joined stream_of streams (keys_of names)) no_stream n all_streams p.0;
        request_count_fits = count_fits (joined request_of requests (titles_of names)) no_request m all_requests q.0;
      }

  -- ---- the facts
  facts_same : facts ≡ facts_of s
  unfolding session_at
  facts_same =
      ten facts shape.ten
      ∙ (λ i. cell facts 0 ∷ cell facts 1 ∷ sym (session_back (cell facts 2) says.state) i ∷ sym (flag_back (cell facts 3) says.app) i ∷ cell facts 4 ∷ cell facts 5 ∷ sym (mod-eq_of_lt says.next_stream_fits) i ∷ sym (mod-eq_of_lt says.next_request_fits) i ∷ n ∷ m ∷ [])

  -- ---- the columns
  abbrev ts : List Stream
  ts = used_streams n streams names

  abbrev rs : List Request
  rs = used_requests m requests names

  keys_length : length (keys_of names) ≡ 16
  keys_length = part_length 2 names (omega (arith, shape.thirty_four))

  titles_length : length (titles_of names) ≡ 16
  titles_length = part_length 18 names (omega (arith, shape.thirty_four))

  ts_length : length ts ≡ n
  ts_length = length-take-le n (joined stream_of streams (keys_of names)) (omega (arith, all_streams, says.stream_count_fits))

  rs_length : length rs ≡ m
  rs_length = length-take-le m (joined request_of requests (titles_of names)) (omega (arith, all_requests, says.request_count_fits))

  stream_rows_back : map stream_row ts ≡ take n streams
  stream_rows_back = rows_back stream_of stream_row stream_readable 4 stream_back n streams (keys_of names) (shape.sixteen_streams ∙ sym keys_length) says.stream_rows shape.four_wide

  keys_back : map key_bytes ts ≡ take n (keys_of names)
  keys_back = names_back stream_of key_bytes (λ row bytes. refl) n streams (keys_of names) (shape.sixteen_streams ∙ sym keys_length)

  request_rows_back : map request_row rs ≡ take m requests
  request_rows_back = rows_back request_of request_row request_readable 6 request_back m requests (titles_of names) (shape.sixteen_requests ∙ sym titles_length) says.request_rows shape.six_wide

  titles_back : map title_bytes rs ≡ take m (titles_of names)
  titles_back = names_back request_of title_bytes (λ row bytes. refl) m requests (titles_of names) (shape.sixteen_requests ∙ sym titles_length)

  -- a column of the streams' table, rows or keys
  module _ (g : Stream → List ℕ) (l : List (List ℕ)) (hl : length l ≡ 16) (back : map g ts ≡ take n l) where
    of_streams :
        (effect : Effect) (e : Stream) (r : Request)
        → edited (g no_stream) (stream_edit effect (place_in stream_number e.id.0 ts)) n (g e) l ≡ onto (map g (streams_of n (applied_by effect s e r))) l
    unfolding session_at with_stream with_changed without_stream with_request without_request
    of_streams Nothing e r = kept_same g no_stream ts l n hl says.stream_count_fits ts_length back
    of_streams StreamMade e r = kept_add g no_stream ts l n hl says.stream_count_fits ts_length back e
    of_streams StreamSet e r = kept_put g no_stream ts l n hl says.stream_count_fits ts_length back stream_number e
    of_streams StreamRemoved e r = kept_cut g no_stream ts l n hl says.stream_count_fits ts_length back stream_number e.id.0 (g e)
    of_streams RequestFiled e r = kept_same g no_stream ts l n hl says.stream_count_fits ts_length back
    of_streams (ConnectFiled encoding) e r = kept_same g no_stream ts l n hl says.stream_count_fits ts_length back
    of_streams ConnectAccepted e r = kept_same g no_stream ts l n hl says.stream_count_fits ts_length back
    of_streams StreamAccepted e r = kept_put g no_stream ts l n hl says.stream_count_fits ts_length back stream_number e
    of_streams RequestRemoved e r = kept_same g no_stream ts l n hl says.stream_count_fits ts_length back

  module _ (g : Request → List ℕ) (l : List (List ℕ)) (hl : length l ≡ 16) (back : map g rs ≡ take m l) where
    of_requests :
        (effect : Effect) (e : Stream) (r : Request)
        → edited (g no_request) (request_edit effect (place_in request_number r.id.0 rs)) m (g r) l ≡ onto (map g (requests_of m (applied_by effect s e r))) l
    unfolding session_at with_stream with_changed without_stream with_request without_request
    of_requests Nothing e r = kept_same g no_request rs l m hl says.request_count_fits rs_length back
    of_requests StreamMade e r = kept_same g no_request rs l m hl says.request_count_fits rs_length back
    of_requests StreamSet e r = kept_same g no_request rs l m hl says.request_count_fits rs_length back
    of_requests StreamRemoved e r = kept_same g no_request rs l m hl says.request_count_fits rs_length back
    of_requests RequestFiled e r = kept_add g no_request rs l m hl says.request_count_fits rs_length back r
    of_requests (ConnectFiled encoding) e r = kept_add g no_request rs l m hl says.request_count_fits rs_length back r
    of_requests ConnectAccepted e r = kept_cut g no_request rs l m hl says.request_count_fits rs_length back request_number r.id.0 (g r)
    of_requests StreamAccepted e r = kept_cut g no_request rs l m hl says.request_count_fits rs_length back request_number r.id.0 (g r)
    of_requests RequestRemoved e r = kept_cut g no_request rs l m hl says.request_count_fits rs_length back request_number r.id.0 (g r)

  of_facts : (effect : Effect) (e : Stream) (r : Request) → facts_after effect r.name.len facts ≡ facts_of (applied_by effect s e r)
  unfolding session_at with_stream with_changed without_stream with_request without_request
  of_facts Nothing e r = facts_same
  of_facts StreamMade e r = ap (λ (t : List ℕ). set (set t 6 (following (cell facts 6 % 4294967296))) 8 (one_more n)) facts_same
  of_facts StreamSet e r = facts_same
  of_facts StreamRemoved e r = ap (λ (t : List ℕ). set t 8 (n - 1)) facts_same
  of_facts RequestFiled e r = ap (λ (t : List ℕ). set (set t 7 (following (cell facts 7 % 4294967296))) 9 (one_more m)) facts_same
  of_facts (ConnectFiled encoding) e r = ap (λ (t : List ℕ). set (set (set t 7 (following (cell facts 7 % 4294967296))) 9 (one_more m)) 5 encoding) facts_same
  of_facts ConnectAccepted e r = ap (λ (t : List ℕ). set (set (set (set t 9 (m - 1)) 2 1) 3 1) 4 r.name.len) facts_same
  of_facts StreamAccepted e r = ap (λ (t : List ℕ). set t 9 (m - 1)) facts_same
  of_facts RequestRemoved e r = ap (λ (t : List ℕ). set t 9 (m - 1)) facts_same

  of_version : (effect : Effect) (e : Stream) (r : Request) → get_or names 0 [] ≡ (applied_by effect s e r).version.bytes
  unfolding session_at with_stream with_changed without_stream with_request without_request
  of_version Nothing e r = refl
  of_version StreamMade e r = refl
  of_version StreamSet e r = refl
  of_version StreamRemoved e r = refl
  of_version RequestFiled e r = refl
  of_version (ConnectFiled encoding) e r = refl
  of_version ConnectAccepted e r = refl
  of_version StreamAccepted e r = refl
  of_version RequestRemoved e r = refl

  of_app : (effect : Effect) (e : Stream) (r : Request) → app_after effect (title_bytes r) (get_or names 1 []) ≡ (applied_by effect s e r).app.bytes
  unfolding session_at with_stream with_changed without_stream with_request without_request
  of_app Nothing e r = refl
  of_app StreamMade e r = refl
  of_app StreamSet e r = refl
  of_app StreamRemoved e r = refl
  of_app RequestFiled e r = refl
  of_app (ConnectFiled encoding) e r = refl
  of_app ConnectAccepted e r = refl
  of_app StreamAccepted e r = refl
  of_app RequestRemoved e r = refl

  -- ---- all of it
  pub applied_kept : (c : Change) → applied_at (facts, (streams, (requests, names))) c ≡ kept_at (facts, (streams, (requests, names))) (applied (session_at facts streams requests names) c)
  unfolding applied_at kept_at applied
  applied_kept c =
      let nn : in_use n ≡ n = omega (arith, says.stream_count_fits) in
      let mm : in_use m ≡ m = omega (arith, says.request_count_fits) in
      let pp : stream_place a c ≡ place_in stream_number c.stream.id.0 ts =
      ap (λ (j : ℕ). place_in row_id c.stream.id.0 (take j streams)) nn
      ∙ sym (place_joined stream_of stream_number c.stream.id.0 (λ row bytes. refl) n streams (keys_of names) (shape.sixteen_streams ∙ sym keys_length)) in
      let qq : request_place a c ≡ place_in request_number c.request.id.0 rs =
      ap (λ (j : ℕ). place_in row_id c.request.id.0 (take j requests)) mm
      ∙ sym (place_joined request_of request_number c.request.id.0 (λ row bytes. refl) m requests (titles_of names) (shape.sixteen_requests ∙ sym titles_length)) in
      (λ i. edited_by (stream_edit c.effect (pp i)) (request_edit c.effect (qq i)) (nn i) (mm i) a c)
      ∙ (λ i. (
        of_facts c.effect c.stream c.request i,
        (
          of_streams stream_row streams shape.sixteen_streams stream_rows_back c.effect c.stream c.request i,
          (
            of_requests request_row requests shape.sixteen_requests request_rows_back c.effect c.stream c.request i,
            of_version c.effect c.stream c.request i
                ∷ of_app c.effect c.stream c.request i
                ∷ (of_streams key_bytes (keys_of names) keys_length keys_back c.effect c.stream c.request i ++ of_requests title_bytes (titles_of names) titles_length titles_back c.effect c.stream c.request i),
          ),
        ),
      ))

  names_whole : (l : List (List ℕ)) → length l ≡ 34 → get_or l 0 [] ∷ get_or l 1 [] ∷ (keys_of l ++ titles_of l) ≡ l
  names_whole [] h = absurd (omega (arith, h))
  names_whole (x ∷ []) h = absurd (omega (arith, h))
  names_whole (x ∷ y ∷ l) h =
      ap (λ (t : List (List ℕ)). x ∷ y ∷ (take 16 l ++ t)) (take_all 16 (drop 16 l) (omega (arith, length-drop 16 l, h)))
      ∙ ap (λ (t : List (List ℕ)). x ∷ y ∷ t) (take-append-drop 16 l)

  -- what is kept of the session that stands there is what stands there
  pub same_kept : kept_at (facts, (streams, (requests, names))) (session_at facts streams requests names) ≡ (facts, (streams, (requests, names)))
  unfolding applied_at applied
  same_kept = sym (applied_kept no_change) ∙ ap {B = Arrays} (λ (t : List (List ℕ)). (facts, (streams, (requests, t)))) (names_whole names shape.thirty_four)

  -- ---- a session that is read has nothing past its counts
  pub tidy_read : Tidy (session_at facts streams requests names)
  unfolding session_at
  tidy_read =
      let p = used_front (joined stream_of streams (keys_of names)) all_streams no_stream n in
      let q = used_front (joined request_of requests (titles_of names)) all_requests no_request m in
      record {
        streams = ap (λ (t : List Stream). t ++ replicate (16 - n) no_stream) (sym p);
        requests = ap (λ (t : List Request). t ++ replicate (16 - m) no_request) (sym q);
        stream_count_fits = ap length p ∙ ts_length;
        request_count_fits = ap length q ∙ rs_length;
        stream_places_lem = says.stream_count_fits;
        request_places_lem = says.request_count_fits;
      }
