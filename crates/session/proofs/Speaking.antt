-- What lines say, from what the calls behind them say. Assumes nothing.
use Rattle.std.proofs.Common.{◌≡◌, ℕ, Bool, true, false, not, ◌&&◌, List, [], ◌∷◌, ◌++◌, length, get_or, replicate, Some, None, Ok, Err, Option, Result, sym, refl, ap, ◌∙◌, subst, arith, MatchResult}
use Rattle.refusal.specs.declared.reason.Refusal.{Refusal}
use Rattle.refusal.specs.declared.reason.Refusal.TheVariants.{NoMemory}
use Rattle.tile.specs.Tiles.{level_words}
use Rattle.mast.specs.Masts.{name_words}
use Rattle.joined.specs.declared.record.Joined.{Joined}
use Rattle.joined.specs.declared.record.Joined.TheVariants.{Tile, Mast}
use Rattle.joined.specs.Joins.{joined_unit}
use Rattle.joined.specs.Laws.{back, only}
use Rattle.calls.specs.declared.call.Call.{Call}
use Rattle.calls.specs.declared.call.Call.TheVariants as call
use Rattle.calls.specs.declared.answer.Answer.{Answer}
use Rattle.calls.specs.Plans.{Machine}
use Rattle.book.specs.Promise.{Lawful}
use Rattle.promise.specs.declared.request.Request.{Request}
use Rattle.promise.specs.declared.request.Request.TheVariants.{Call as aCall, Restart}
use Rattle.promise.specs.Told.{Performs}
use Rattle.promise.proofs.Lists.{no_requests, lists_join}
use Rattle.commands.specs.declared.command.Command.{Command}
use Rattle.commands.specs.declared.command.Contents.{Contents}
use Rattle.device.specs.declared.comeback.Comeback.{Comeback}
use Rattle.commands.specs.Comebacks.{comeback_of}
use Rattle.commands.specs.Commands.{Wanted, Asked, asked, set, restart}
use Rattle.commands.specs.Records.{Fulfils}
use Rattle.printing.specs.declared.detail.Detail.{Detail}
use Rattle.printing.specs.declared.detail.Detail.TheVariants as detail
use Rattle.printing.specs.declared.complaint.Complaint.{Complaint}
use Rattle.printing.specs.Said.{number_shown, detail_shown}
use Rattle.session.specs.Said.{tiles_and_masts, number_said, detail_said, needs_ticket, held_after}
use Rattle.session.specs.Lines.{Makes, sets, return_of, leaving, Line, made, LineSaid, CallSaid, GivenUp}
use Rattle.session.specs.Lines as spec

-- a call's answer is the line's
said_by : (m : Machine) (held : Bool) (c : Asked) (k : Call Joined) (number : ℕ) (said : Detail) (n : Machine) (after : Bool)
    → (needs_ticket c ≡ true → held ≡ true) → Makes c k → CallSaid m held c k number said n after → LineSaid m held (Some c) number said n after
said_by m held c k number said n after ticket makes s = record {
  requests = aCall k ∷ [];
  answers = s.answer ∷ [];
  line =
      subst (λ (i : ℕ). Line m held (Some c) (aCall k ∷ []) (s.answer ∷ []) i said n after) (sym s.number_is)
      (subst (λ (d : Detail). Line m held (Some c) (aCall k ∷ []) (s.answer ∷ []) (number_said s.answer) d n after) (sym s.said_is)
      (subst (λ (b : Bool). Line m held (Some c) (aCall k ∷ []) (s.answer ∷ []) (number_said s.answer) (detail_said s.answer) n b) (sym s.after_is)
      (made ticket makes s.performed)));
}

-- a ticket is held, or none is needed
has_ticket : (x y : Bool) → x && not y ≡ false → x ≡ true → y ≡ true
has_ticket x true h k = refl
has_ticket true false h k = sym h
has_ticket false false h k = k

-- a command that has a ticket if it needs one
pub ticket_held : {q p : Command} (held : Bool) {lacks : Bool} → lacks ≡ (needs_ticket (asked q) && not held) → lacks ≡ false → q ≡ p → needs_ticket (asked p) ≡ true → held ≡ true
ticket_held {q = q} held tested goes_on is h = has_ticket (needs_ticket (asked q)) held (sym tested ∙ goes_on) (ap (λ (x : Command). needs_ticket (asked x)) is ∙ h)

-- what is said by the call that a command makes, or want of memory
module _ (m : Machine) (held : Bool) (q p : Command) (is : q ≡ p) (ticket : needs_ticket (asked p) ≡ true → held ≡ true) (k : Call Joined) (makes : Makes (asked p) k) (n : Machine) (after : Bool) where
  pub spoken : (r : Result (Result Detail Complaint) Refusal)
      → MatchResult r (λ s. CallSaid m held (asked p) k (number_shown s) (detail_shown s) n after) (λ e. e ≡ NoMemory)
      → MatchResult r (λ s. LineSaid m held (Some (asked q)) (number_shown s) (detail_shown s) n after) (λ e. e ≡ NoMemory)
  spoken (Ok s) h = subst (λ (x : Command). LineSaid m held (Some (asked x)) (number_shown s) (detail_shown s) n after) (sym is) (said_by m held (asked p) k (number_shown s) (detail_shown s) n after ticket makes h)
  spoken (Err e) h = h

  -- of a call that leaves the ticket
  pub spoken_plainly : (r : Result (Result Detail Complaint) Refusal) → ((a : Answer Joined) → held_after held (asked p) a ≡ held)
      → MatchResult r (λ s. (c : Asked) → ((a : Answer Joined) → held_after held c a ≡ held) → CallSaid m held c k (number_shown s) (detail_shown s) n after) (λ e. e ≡ NoMemory)
      → MatchResult r (λ s. LineSaid m held (Some (asked q)) (number_shown s) (detail_shown s) n after) (λ e. e ≡ NoMemory)
  spoken_plainly (Ok s) leaves h = spoken (Ok s) (h (asked p) leaves)
  spoken_plainly (Err e) leaves h = h

-- lines that call nothing
pub said_nothing : (m : Machine) (held : Bool) (x : Option Asked) (number n : ℕ) (said : Detail) → number ≡ n → said ≡ detail.Nothing → Line m held x [] [] n detail.Nothing m held
    → LineSaid m held x number said m held
said_nothing m held x number n said p q line = record {
  requests = [];
  answers = [];
  line =
      subst (λ (i : ℕ). Line m held x [] [] i said m held) (sym p) (subst (λ (d : Detail). Line m held x [] [] n d m held) (sym q) line);
}

-- the laws of tiles and masts
whole : (x : Joined) → length (joined_unit x) ≡ 32
unfolding level_words name_words
whole (Tile t) = refl
whole (Mast m) = refl

nonzero : (x : Joined) → joined_unit x ≡ replicate 32 0 → ⊥
nonzero (Tile t) h = let z : ◌≡◌ {A = ℕ} 1 0 = ap (λ (u : List ℕ). get_or u 0 0) h in omega (arith, z)
nonzero (Mast m) h = let z : ◌≡◌ {A = ℕ} 2 0 = ap (λ (u : List ℕ). get_or u 0 0) h in omega (arith, z)

pub lawful : Lawful tiles_and_masts
lawful = record { whole = whole; nonzero = nonzero; back = back; only = only }

-- a ticket that is held is given up by an abandon; without one there is nothing to do
pub gave_up : (m : Machine) (held : Bool) (k : Call Joined) (number : ℕ) (said : Detail) (n : Machine) (after : Bool) (c : Asked)
    → held ≡ true → k ≡ call.Abandon → CallSaid m held c k number said n after → GivenUp m held n
gave_up m held k number said n after c is abandons s = record {
  answers = s.answer ∷ [];
  performed = subst (λ (b : Bool). Performs tiles_and_masts m (leaving b) (s.answer ∷ []) n) (sym is)
      (subst (λ (j : Call Joined). Performs tiles_and_masts m (aCall j ∷ []) (s.answer ∷ []) n) abandons s.performed);
}

pub had_none : (m : Machine) (held : Bool) → held ≡ false → GivenUp m held m
had_none m held is = record { answers = []; performed = subst (λ (b : Bool). Performs tiles_and_masts m (leaving b) [] m) (sym is) (no_requests tiles_and_masts lawful m) }

-- a restart after that
pub came_back : (m : Machine) (held : Bool) (n p : Machine) (contents : Contents) (nvmActs diskActs : ℕ) (request : Request Joined) (a : Answer Joined) (number : ℕ) (said : Detail) (after : Bool)
    → GivenUp m held n → request ≡ Restart (return_of contents nvmActs diskActs) → Performs tiles_and_masts n (request ∷ []) (a ∷ []) p → number ≡ 0 → said ≡ detail.Nothing → after ≡ false
    → LineSaid m held (Some (restart contents nvmActs diskActs)) number said p after
came_back m held n p contents nvmActs diskActs request a number said after up is performed zero nothing free =
    let x : Option Asked = Some (restart contents nvmActs diskActs) in
    subst (λ (i : ℕ). LineSaid m held x i said p after) (sym zero)
    (subst (λ (d : Detail). LineSaid m held x 0 d p after) (sym nothing)
    (subst (LineSaid m held x 0 detail.Nothing p) (sym free)
    (record {
      requests = leaving held ++ Restart (return_of contents nvmActs diskActs) ∷ [];
      answers = up.answers ++ a ∷ [];
      line = spec.back (lists_join tiles_and_masts m n p (leaving held) (Restart (return_of contents nvmActs diskActs) ∷ []) up.answers (a ∷ []) up.performed
          (subst (λ (y : Request Joined). Performs tiles_and_masts n (y ∷ []) (a ∷ []) p) is performed));
    })))

-- both devices come back alike
pub same_return : (a b : Comeback) (contents : Contents) (x y : ℕ) → a ≡ comeback_of contents → b ≡ comeback_of contents
    → ◌≡◌ {A = Request Joined} (Restart (record { nvm = a; disk = b; nvm_acts = x; disk_acts = y })) (Restart (return_of contents x y))
same_return a b contents x y p q =
    ap (λ (c : Comeback). Restart (record { nvm = c; disk = b; nvm_acts = x; disk_acts = y })) p
    ∙ ap (λ (c : Comeback). Restart (record { nvm = comeback_of contents; disk = c; nvm_acts = x; disk_acts = y })) q

-- a record that was made is set
pub spoken_set : (m : Machine) (held : Bool) (x : ℕ) (w : Wanted) (v : Joined) (n : Machine) (after : Bool) (r : Result (Result Detail Complaint) Refusal) → Fulfils w v
    → MatchResult r (λ s. (c : Asked) → ((a : Answer Joined) → held_after held c a ≡ held) → CallSaid m held c (call.Set x v) (number_shown s) (detail_shown s) n after) (λ e. e ≡ NoMemory)
    → MatchResult r (λ s. held ≡ true → LineSaid m held (Some (set x w)) (number_shown s) (detail_shown s) n after) (λ e. e ≡ NoMemory)
spoken_set m held x w v n after (Ok s) f h = λ is. said_by m held (set x w) (call.Set x v) (number_shown s) (detail_shown s) n after (λ k. is) (sets f) (h (set x w) (λ a. refl))
spoken_set m held x w v n after (Err e) f h = h

-- a line of another form
pub another_form : (m : Machine) (held : Bool) (x : Option Asked) (number : ℕ) (said : Detail) → None ≡ x → number ≡ 90 → said ≡ detail.Nothing → LineSaid m held x number said m held
another_form m held x number said is p q = subst (λ (z : Option Asked). LineSaid m held z number said m held) is (said_nothing m held None number 90 said p q spec.unread)
