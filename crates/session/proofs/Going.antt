-- How a script goes on, line by line. Assumes nothing.
use Rattle.std.proofs.Common.{◌≡◌, ℕ, ◌+◌, ◌≤◌, Bool, false, List, [], ◌∷◌, ◌++◌, length, Option, sym, refl, ap, ◌∙◌, subst, append_assoc, append-nil, arith, length-append}
use Rattle.joined.specs.declared.record.Joined.{Joined}
use Rattle.lines.specs.Pieces.{parted, lines_of}
use Rattle.calls.specs.declared.answer.Answer.{Answer}
use Rattle.calls.specs.Plans.{Machine}
use Rattle.promise.specs.declared.request.Request.{Request}
use Rattle.promise.specs.Told.{Performs}
use Rattle.promise.proofs.Lists.{no_requests, lists_join}
use Rattle.commands.specs.Commands.{Asked, command_of}
use Rattle.printing.specs.declared.detail.Detail.{Detail}
use Rattle.printing.specs.Texts.{line_text}
use Rattle.session.specs.Said.{tiles_and_masts, letter_of}
use Rattle.session.specs.Lines.{Line, unread, ticketless, unmade, made, back, LineWritten, GivenUp, Lines, none, next, joined_texts, most_bytes, Progress, Script, Runs}
use Rattle.session.proofs.Speaking.{lawful}

-- what a line asks keeps the promise
line_performs : {m : Machine} {held : Bool} {x : Option Asked} {requests : List (Request Joined)} {answers : List (Answer Joined)} {number : ℕ} {said : Detail} {n : Machine} {after : Bool}
    → Line m held x requests answers number said n after → Performs tiles_and_masts m requests answers n
line_performs {m = m} unread = no_requests tiles_and_masts lawful m
line_performs {m = m} (ticketless needs lacks) = no_requests tiles_and_masts lawful m
line_performs {m = m} (unmade held why) = no_requests tiles_and_masts lawful m
line_performs (made ticket makes performed) = performed
line_performs (back performed) = performed

texts_more : (texts : List (List ℕ)) (t : List ℕ) → joined_texts (texts ++ t ∷ []) ≡ joined_texts texts ++ t
unfolding joined_texts
texts_more [] t = append-nil t
texts_more (u ∷ texts) t = ap (λ (x : List ℕ). u ++ x) (texts_more texts t) ∙ sym (append_assoc u (joined_texts texts) t)

-- before the first line
pub begun : (m : Machine) (input output : List ℕ) (held : Bool) → output ≡ [] → held ≡ false → Progress m input input 0 output m held
unfolding joined_texts
begun m input output held empty free =
    subst (Progress m input input 0 output m) (sym free)
    (subst (λ (o : List ℕ). Progress m input input 0 o m false) (sym empty)
    (record {
      lines = [];
      requests = [];
      answers = [];
      texts = [];
      ran = none;
      left = refl;
      output_is = refl;
      number_is = refl;
      each = refl;
      promised = no_requests tiles_and_masts lawful m;
    }))

-- one line more
pub onward : (m : Machine) (input rest later : List ℕ) (line : List ℕ) (number following : ℕ) (output more : List ℕ) (n p : Machine) (held after : Bool)
    → Progress m input rest number output n held → lines_of rest ≡ line ∷ lines_of later → following ≡ number + 1
    → LineWritten n held (command_of line) following output more p after → Progress m input later following more p after
onward m input rest later line number following output more n p held after so_far first is w =
    let t = line_text following (letter_of p) w.answer w.said in
    let on : following ≡ length so_far.texts + 1 = let a = so_far.number_is in omega (arith, a, is) in
    let same : t ≡ line_text (length so_far.texts + 1) (letter_of p) w.answer w.said = ap (λ (i : ℕ). line_text i (letter_of p) w.answer w.said) on in
    record {
      lines = so_far.lines ++ line ∷ [];
      requests = so_far.requests ++ w.line.requests;
      answers = so_far.answers ++ w.line.answers;
      texts = so_far.texts ++ t ∷ [];
      ran =
          subst (λ (u : List ℕ). Lines m (so_far.lines ++ line ∷ []) (so_far.requests ++ w.line.requests) (so_far.answers ++ w.line.answers) (so_far.texts ++ u ∷ []) p after)
          (sym same) (next so_far.ran line w.line.line);
      left = so_far.left ∙ ap (λ (ls : List (List ℕ)). so_far.lines ++ ls) first ∙ sym (append_assoc so_far.lines (line ∷ []) (lines_of later));
      output_is = w.output_is ∙ ap (λ (o : List ℕ). o ++ t) so_far.output_is ∙ sym (texts_more so_far.texts t);
      number_is = let a = length-append so_far.texts (t ∷ []) in omega (arith, a, on);
      each =
          let a = length-append so_far.texts (t ∷ []) in
          let b = length-append so_far.lines (line ∷ []) in
          let e = so_far.each in
          omega (arith, a, b, e);
      promised = lists_join tiles_and_masts m n p so_far.requests w.line.requests so_far.answers w.line.answers so_far.promised (line_performs w.line.line);
    }

-- after the last line
pub ended : (m : Machine) (input : List ℕ) (number : ℕ) (output : List ℕ) (n p : Machine) (held : Bool)
    → Progress m input [] number output n held → GivenUp n held p → Script m input output p
unfolding parted
ended m input number output n p held all up =
    let whole : lines_of input ≡ all.lines = all.left ∙ append-nil all.lines in
    record {
      requests = all.requests;
      answers = all.answers;
      last = up.answers;
      texts = all.texts;
      held = held;
      middle = n;
      lines = subst (λ (ls : List (List ℕ)). Lines m ls all.requests all.answers all.texts n held) (sym whole) all.ran;
      ended = up.performed;
      each = all.each ∙ sym (ap (λ (ls : List (List ℕ)). length ls) whole);
      output_is = all.output_is;
      promised = lists_join tiles_and_masts m n p all.requests _ all.answers up.answers all.promised up.performed;
    }

-- the whole script, long or not
pub runs : (m : Machine) (input output : List ℕ) (n : Machine) → length input ≤ most_bytes → Script m input output n → Runs m input output n
runs m input output n few s = ((λ h. s), λ many. absurd (omega (arith, few, many)))
