-- "frames filed under a closed key": after a close or a delete, and until a publish is accepted again, there are none.
use mathlib.Core.Path.{◌≡◌, refl, sym, ap, ◌∙◌}
use Prim.Native.Nat.{ℕ}
use mathlib.Core.Bool.{Bool, true, false, true≢false}
use mathlib.Core.List.{List, [], ◌∷◌, ◌++◌}
use lib.Dec.{eqb}
use Rattle.std.specs.Prelude.{Option, Some, None, Result, Ok}
use Rattle.numbers.specs.Choose.{pick}
use Rattle.numbers.proofs.ChooseLaws.{pick_elim}
use Rattle.text.specs.declared.ids.StreamId.{StreamId}
use Rattle.text.specs.declared.names.Name.{Name}
use Rattle.tables.specs.declared.requests.RequestKind.{RequestKind}
use Rattle.tables.specs.declared.requests.RequestKind.TheVariants.{Connect, Publish, Play}
use Rattle.tables.specs.declared.streams.Stream.{Stream}
use Rattle.tables.specs.declared.streams.StreamState.{StreamState}
use Rattle.tables.specs.declared.streams.StreamState.TheVariants.{Created, Publishing, Playing, Completed}
use Rattle.wishes.specs.Outcome.{Outcome}
use Rattle.wishes.specs.declared.outcome.Refusal.{Refusal}
use Rattle.wishes.specs.declared.wish.Wish.{Wish}
use Rattle.wishes.specs.declared.wish.Wish.TheVariants.{CreateStream, CloseStream, DeleteStream}
use Rattle.session.specs.State.{session_sound}
use Rattle.session.specs.declared.changes.Change.{Change}
use Rattle.session.specs.declared.decision.Decision.{Decision}
use Rattle.session.specs.declared.decision.Event.{Event}
use Rattle.session.specs.declared.decision.Reply.TheVariants.{Nothing as NoReply}
use Rattle.session.specs.declared.desk.Desk.{Desk}
use Rattle.session.specs.declared.session.Session.{Session}
use Rattle.streams.specs.Streams.{ended, known, on_known, on_stream}
use Rattle.steps.specs.Deciding.{decide, decided}
use Rattle.story.specs.Steps.{Call, Response, accept, finish, media, message, reject, step}
use Rattle.story.specs.Doings.{Doing, Wants, Shows, Accepts, Finishes, doing}
use Rattle.story.specs.Runs.{Start, Told, after, told}
use Rattle.story.specs.History.{Filed, Last, Creation, Closing, Deletion, PublishAccepted, Finishing, acceptance, accepting, done, effect, effect_of_want, ending, filed, joined, last_effective, stands}
use Rattle.story.specs.Stories.{NoneAccepts, accepts_publish, ends, ends_want, frame_in, is_publish, nothing_raised, publish_on}
use Rattle.story.proofs.DecisionLaws.{decision_at}
use Rattle.story.proofs.StepLaws.{Constants, answer_by, constants_of, sent_nothing, step_answer}
use Rattle.story.proofs.RunLaws.{good_after}
use Rattle.story.proofs.StoryTheorems.{or_nothing}

-- ---- a close or a delete is never refused: it sends nothing
abbrev Silent : Decision → Type 0
Silent d = (d.outcome ≡ Ok tt) × (d.reply ≡ NoReply)

end_silent : (st : StreamState) (app key : Name) (c : Change) → Silent (ended st app key c)
end_silent Created app key c = (refl, refl)
end_silent Publishing app key c = (refl, refl)
end_silent Playing app key c = (refl, refl)
end_silent Completed app key c = (refl, refl)

known_silent : (o : Option Stream) (f : Stream → Decision) → ((e : Stream) → Silent (f e)) → Silent (on_known o f)
known_silent (Some e) f k = k e
known_silent None f k = (refl, refl)

on_silent : (d : Desk) (f : Stream → Decision) → ((e : Stream) → Silent (f e)) → Silent (on_stream d f)
unfolding on_stream
on_silent d f k = known_silent (known d) f k

want_silent : (s : Session) (x : ℕ) (y : StreamId) (v : Result Wish Refusal) → ends_want x v ≡ true → Silent (decided s y v)
unfolding decided decide
want_silent s x y (Ok (CloseStream z)) q = on_silent _ _ (λ e. end_silent e.state _ e.key _)
want_silent s x y (Ok (DeleteStream z)) q = on_silent _ _ (λ e. end_silent e.state _ e.key _)
want_silent s x y other q = absurd (true≢false (sym q))

decides_silent : (s : Session) (x : ℕ) (g : Doing) → ends x g ≡ true → Silent (decision_at s g)
decides_silent s x (Wants y w) q = want_silent s x y w q
decides_silent s x other q = absurd (true≢false (sym q))

answers_done : (x : ℕ) (c : Call) (k : Constants) (d : Decision) → ends x (doing c) ≡ true → Silent d → (answer_by k d c).outcome ≡ Ok tt
answers_done x (message type y t clock body out) k d q z = rw (z.1, sent_nothing out) z.0
answers_done x (media kind y t) k d q z = z.0
answers_done x (accept n clock out) k d q z = rw (z.1, sent_nothing out) z.0
answers_done x (reject n code description clock out) k d q z = rw (z.1, sent_nothing out) z.0
answers_done x (finish y clock out) k d q z = rw (z.1, sent_nothing out) z.0
answers_done x other k d q z = absurd (true≢false (sym q))

end_done : (s : Session) → session_sound s ≡ true → (x : ℕ) (c : Call) → ends x (doing c) ≡ true → (step s c).0.outcome ≡ Ok tt
end_done s g x c q =
    ap (λ (r : Response). r.outcome) (step_answer s g c) ∙ answers_done x c (constants_of s) (decision_at s (doing c)) q (decides_silent s x (doing c) q)

-- ---- no publish is the last effective step
abbrev Off : Last → Type 0
Off l = (key : Name) → l ≡ PublishAccepted key → ⊥

end_off : (new : Last) → Off new → (j : Option Name) (l : Last) → Off l → Off (ending new j l)
end_off new n None l o = o
end_off new n (Some a) l o = pick_elim Off _ _ (stands l) (λ b. n) (λ b. o)

off_closing : Off Closing
off_closing k e = cc

off_deletion : Off Deletion
off_deletion k e = cc

off_creation : Off Creation
off_creation k e = cc

off_finishing : Off Finishing
off_finishing k e = cc

-- a close or a delete while connected leaves none, whatever stood there
not_standing : (l : Last) → stands l ≡ false → Off l
not_standing l q key e = true≢false (sym (ap stands e) ∙ q)

ended_off : (new : Last) → Off new → (a : Name) (l : Last) → Off (ending new (Some a) l)
ended_off new n a l = pick_elim Off _ _ (stands l) (λ b. n) (λ b. not_standing l b)

by_end : (b : Bool) → b ≡ true → (new : Last) → Off new → (a : Name) (l : Last) → Off (pick b (ending new (Some a) l) l)
by_end true q new n a l = ended_off new n a l
by_end false q new n a l = absurd (true≢false (sym q))

ends_off : (x : ℕ) (v : Result Wish Refusal) (h : List Told) (a : Name) (l : Last) → ends_want x v ≡ true → joined h ≡ Some a → Off (effect_of_want x v h l)
ends_off x (Ok (CloseStream y)) h a l q j = rw j (by_end (eqb y.0 x) q Closing off_closing a l)
ends_off x (Ok (DeleteStream y)) h a l q j = rw j (by_end (eqb y.0 x) q Deletion off_deletion a l)
ends_off x other h a l q j = absurd (true≢false (sym q))

effect_ends : (x : ℕ) (g : Doing) (h : List Told) (a : Name) (l : Last) → ends x g ≡ true → joined h ≡ Some a → Off (effect x g (Ok tt) h l)
effect_ends x (Wants y w) h a l q j = ends_off x w h a l q j
effect_ends x other h a l q j = absurd (true≢false (sym q))

-- ---- and it stays so
want_off : (x : ℕ) (v : Result Wish Refusal) (h : List Told) (l : Last) → Off l → Off (effect_of_want x v h l)
want_off x (Ok (CreateStream t)) h l o = pick_elim Off _ _ (eqb _ x) (λ b. off_creation) (λ b. o)
want_off x (Ok (CloseStream y)) h l o = pick_elim Off _ _ (eqb y.0 x) (λ b. end_off Closing off_closing (joined h) l o) (λ b. o)
want_off x (Ok (DeleteStream y)) h l o = pick_elim Off _ _ (eqb y.0 x) (λ b. end_off Deletion off_deletion (joined h) l o) (λ b. o)
want_off x other h l o = o

kind_off : (k : RequestKind) (name : Name) (l : Last) → is_publish k ≡ false → Off l → Off (acceptance k name l)
kind_off Connect name l n o = o
kind_off Publish name l n o = absurd (true≢false n)
kind_off Play name l n o = λ key e. cc

ask_off : (b : Bool) (k : RequestKind) (name : Name) (l : Last) → pick b (is_publish k) false ≡ false → Off l → Off (pick b (acceptance k name l) l)
ask_off true k name l n o = kind_off k name l n o
ask_off false k name l n o = o

accept_off : (b : Bool) (x : ℕ) (f : Option Filed) (l : Last) → pick b (publish_on x f) false ≡ false → Off l → Off (pick b (accepting x f l) l)
accept_off false x f l n o = o
accept_off true x None l n o = o
accept_off true x (Some f) l n o = ask_off (eqb f.stream x) f.kind f.name l n o

effect_off : (x : ℕ) (g : Doing) (r : Outcome) (h : List Told) (l : Last) → accepts_publish x g r h ≡ false → Off l → Off (effect x g r h l)
effect_off x (Wants y w) r h l n o = pick_elim Off _ _ (done r) (λ b. want_off x w h l o) (λ b. o)
effect_off x (Accepts m) r h l n o = accept_off (done r) x (filed m.0 h) l n o
effect_off x (Finishes y) r h l n o = pick_elim Off _ _ (done r) (λ b. pick_elim Off _ _ (eqb y.0 x) (λ c. off_finishing) (λ c. o)) (λ b. o)
effect_off x other r h l n o = o

still_off : (b : Start) (x : ℕ) (newer older : List Call) → NoneAccepts b x newer older → Off (last_effective x (told b older)) → Off (last_effective x (told b (newer ++ older)))
unfolding told last_effective
still_off b x [] older n o = o
still_off b x (c ∷ newer) older n o =
    effect_off x (doing c) (step (after b (newer ++ older)) c).0.outcome (told b (newer ++ older)) (last_effective x (told b (newer ++ older))) n.0 (still_off b x newer older n.1 o)

-- a connect was accepted before; then x is closed or deleted, and no later step accepts a publish on x: audio or video on x raises nothing
pub closed_files_nothing : (b : Start) (newer : List Call) (c : Call) (older : List Call) (x : StreamId) (app : Name)
    → joined (told b older) ≡ Some app → ends x.0 (doing c) ≡ true → NoneAccepts b x.0 newer (c ∷ older)
    → (m : Call) (e : Event) → doing m ≡ Shows x e → frame_in (step (after b (newer ++ c ∷ older)) m).0 ≡ nothing_raised
unfolding told last_effective
closed_files_nothing b newer c older x app j q n m e w =
    let d : (step (after b older) c).0.outcome ≡ Ok tt = end_done (after b older) (good_after b older).sound x.0 c q in
    let h = told b older in
    let z : Off (effect x.0 (doing c) (step (after b older) c).0.outcome h (last_effective x.0 h)) = rw d (effect_ends x.0 (doing c) h app (last_effective x.0 h) q j) in
    or_nothing b (newer ++ c ∷ older) m x e w (still_off b x.0 newer (c ∷ older) n z)
