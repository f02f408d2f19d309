-- Steps of a commit on a store in order with an open transaction. Assumes nothing.
use Rattle.std.proofs.Common.{◌≡◌, ℕ, ◌+◌, ◌-◌, ◌<◌, ◌≤◌, true, false, ◌&&◌, ltb, leb, [], ◌∷◌, length, IsErrAnd, Ok, Err, Result, sym, refl, ap, subst, arith}
use Rattle.std.proofs.lemmas.Bool.{cond-true, cond-false, and_parts, or_from, leb-true, ltb-true, ltb-false}
use Rattle.refusal.specs.declared.reason.Refusal.{Refusal}
use Rattle.refusal.specs.declared.reason.Refusal.TheVariants.{RingFull}
use Rattle.device.specs.Words.{NvmMeaning, words_of}
use Rattle.device.specs.Sectors.{DiskMeaning}
use Rattle.crash.specs.Runs.{done}
use Rattle.crash.specs.Pair.{both, HaltedPair, PerformedPair, PairAccepts}
use Rattle.ringlaws.specs.Layout.{Contents, is_ring, head_of, tail_of, used, most_places}
use Rattle.ringlaws.specs.TxnInfo.{Transaction, taken}
use Rattle.calls.specs.declared.state.State.TheVariants.{Unmounted, Idle, Open}
use Rattle.calls.specs.declared.call.Call.TheVariants.{Commit}
use Rattle.calls.specs.declared.answer.Answer.TheVariants.{Refused, Used}
use Rattle.calls.specs.Acts.{commit_acts}
use Rattle.calls.specs.Plans.{Machine, Kind, Plan, is_full, added, refusing, plan_of}
use Rattle.calls.specs.Steps.{Step}
use Rattle.order.specs.Order.{InOrder, EndsThere}
use Rattle.order.proofs.Accepted.{only_darkness_stops_calls}
use Rattle.acting.proofs.Running.{ran_or_cut}
use Rattle.calling.specs.Seen.{seen, used_answer, if_done}
use Rattle.calling.proofs.Stepping.{by_plan, cut_by_plan}
use Rattle.calling.proofs.Mounted.{ready_at}
use Rattle.committing.specs.Room.{HasRoom, LacksRoom}

-- A transaction with settings, and the room that it takes.
pub full_is : (N : ℕ) (c : Contents) (t : Transaction) → 0 < length t → is_full N c t ≡ ltb (N - 1) (used N c + taken (length t))
full_is N c [] lt = absurd (omega (arith, lt))
full_is N c (s ∷ t) lt = refl

pub added_is : (t : Transaction) → 0 < length t → added t ≡ taken (length t)
added_is [] lt = absurd (omega (arith, lt))
added_is (s ∷ t) lt = refl

pub none_full : (N : ℕ) (c : Contents) (t : Transaction) → length t ≡ 0 → is_full N c t ≡ false
none_full N c [] e = refl
none_full N c (s ∷ t) e = absurd (omega (arith, e))

pub none_added : (t : Transaction) → length t ≡ 0 → added t ≡ 0
none_added [] e = refl
none_added (s ∷ t) e = absurd (omega (arith, e))

-- what is_ring says
pub ring_parts : (N h t : ℕ) → is_ring N h t ≡ true → (N ≤ most_places) × (h < N) × (t < N)
ring_parts N h t e =
    let p = and_parts (leb N most_places) (ltb h N && ltb t N) e in
    let q = and_parts (ltb h N) (ltb t N) p.1 in
    (leb-true N most_places p.0, ltb-true h N q.0, ltb-true t N q.1)

-- a ring with room has as many places as the transaction takes
pub fits : (N : ℕ) (c : Contents) (t : Transaction) (u : ℕ) → HasRoom N c t u → taken (length t) ≤ N
fits N c [] u h = let p = ring_parts N (head_of c) (tail_of c) h.ring in let q = p.2 in omega arith
fits N c (s ∷ t) u h =
    let p = ring_parts N (head_of c) (tail_of c) h.ring in
    let q = p.2 in
    let room : used N c + taken (length (s ∷ t)) ≤ N - 1 = ltb-false (N - 1) (used N c + taken (length (s ∷ t))) h.room in
    omega (arith, q, room)

open_mounted : Open ≡ Unmounted → ⊥
open_mounted h = let z : ◌≡◌ {A = ℕ} 0 1 = cc in omega arith

module _ {R : Type 0} (kind : Kind R) (nvm : NvmMeaning) (disk : DiskMeaning) (list : Transaction) (lit : nvm.dark ≡ false) (also : disk.dark ≡ false)
    (order : InOrder (seen nvm disk Open list)) where
  abbrev m : Machine
  m = seen nvm disk Open list

  abbrev plan : Plan R
  plan = record {
    acts = commit_acts (nvm.size - 1) (words_of nvm) list;
    answer = Used (used (nvm.size - 1) (words_of nvm) + added list);
    state = Idle;
    list = [];
  }

  is_ring_lem : is_ring (nvm.size - 1) (head_of (words_of nvm)) (tail_of (words_of nvm)) ≡ true
  is_ring_lem = (ready_at nvm disk Open list lit also open_mounted order (nvm.size - 1) disk.size (head_of (words_of nvm)) (tail_of (words_of nvm)) refl refl refl refl).fit.ring

  -- there is no room
  pub full : (N : ℕ) → N ≡ nvm.size - 1 → (e : Refusal) → LacksRoom N (words_of nvm) list e → Step kind m Commit (Refused e) m
  full N p e lacks =
      let k = subst (λ (i : ℕ). LacksRoom i (words_of nvm) list e) p lacks is_ring_lem order.settings.most in
      by_plan kind m Commit (refusing m RingFull) (Refused e) m (cond-true (is_full (nvm.size - 1) (words_of nvm) list) (refusing m RingFull) plan k.0)
      (record { before = or_from nvm.dark disk.dark lit also; says = ap Refused k.1; acts = done; state = refl; list = refl })

  -- there is
  module _ (ends : EndsThere m) (N u : ℕ) (p : N ≡ nvm.size - 1) (room : HasRoom N (words_of nvm) list u) where
    own_room : HasRoom (nvm.size - 1) (words_of nvm) list u
    own_room = subst (λ (i : ℕ). HasRoom i (words_of nvm) list u) p room

    plan_is : plan_of kind m Commit ≡ plan
    plan_is = cond-false (is_full (nvm.size - 1) (words_of nvm) list) (refusing m RingFull) plan own_room.room

    accepts : PairAccepts (both nvm disk) (commit_acts (nvm.size - 1) (words_of nvm) list)
    accepts =
        subst (λ (q : Plan R). PairAccepts (both nvm disk) q.acts) plan_is
        (only_darkness_stops_calls kind m Commit order ends (or_from nvm.dark disk.dark lit also))

    pub committed : (n : NvmMeaning) → PerformedPair (both nvm disk) (commit_acts N (words_of nvm) list) (both n disk) → Step kind m Commit (Used u) (seen n disk Idle [])
    committed n ran =
        by_plan kind m Commit plan (Used u) (seen n disk Idle []) plan_is
        (record {
          before = or_from nvm.dark disk.dark lit also;
          says = ap Used own_room.then;
          acts = subst (λ (i : ℕ). PerformedPair (both nvm disk) (commit_acts i (words_of nvm) list) (both n disk)) p ran;
          state = refl;
          list = refl;
        })

    pub cut : (n : NvmMeaning) (e : Refusal) → HaltedPair (both nvm disk) (commit_acts N (words_of nvm) list) e (both n disk) → Step kind m Commit (Refused e) (seen n disk Open list)
    cut n e halted =
        let q = ran_or_cut {V = ℕ} (commit_acts (nvm.size - 1) (words_of nvm) list) (both nvm disk) (both n disk) (Err e) accepts
        (subst (λ (i : ℕ). HaltedPair (both nvm disk) (commit_acts i (words_of nvm) list) e (both n disk)) p halted) in
        cut_by_plan kind m Commit plan (Refused e) (seen n disk Open list) plan_is
        (record { before = or_from nvm.dark disk.dark lit also; says = ap Refused q.0; acts = q.1; state = refl; list = refl })

-- a refusal that is handed on is the same answer, and leaves the transaction open
pub handed_on_lem : {R : Type 0} (kind : Kind R) (m : Machine) (n : NvmMeaning) (d : DiskMeaning) (list : Transaction) (e : Refusal) (r : Result ℕ Refusal) → IsErrAnd r (λ y. y ≡ e)
    → Step kind m Commit (Refused e) (seen n d Open list) → Step kind m Commit (used_answer r) (seen n d (if_done r Idle Open) (if_done r [] list))
handed_on_lem kind m n d list e (Ok v) b s = absurd b
handed_on_lem kind m n d list e (Err y) b s = subst (λ (x : Refusal). Step kind m Commit (Refused x) (seen n d Open list)) (sym b) s
