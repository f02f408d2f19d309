-- A list that is written in two parts, first its front and then the rest, is the one part after the other.
use Rattle.std.proofs.Common.{◌≡◌, ℕ, ◌+◌, ◌≤◌, List, ◌++◌, length, drop, ap, ◌∙◌, arith, length-append, length-drop}
use Rattle.std.proofs.lemmas.List.{drop_all, take_at, append-nil}
use borrow.Rule.Slice.PartMut.{put_mid, post_of}

pub two_parts : {X : Type 0} (n m : ℕ) (xs a b : List X) → length a ≡ n → length xs ≡ n + m → put_mid n m (a ++ post_of 0 n xs) b ≡ a ++ b
two_parts n m xs a b front whole =
    let rest : length (drop n (a ++ post_of 0 n xs)) ≤ m = simp (length-drop, length-append) (omega arith) in
    ap (λ (zs : _). zs ++ (b ++ post_of n m (a ++ post_of 0 n xs))) (take_at a (post_of 0 n xs) n front)
    ∙ ap (λ (zs : _). a ++ (b ++ zs)) (drop_all m (drop n (a ++ post_of 0 n xs)) rest)
    ∙ ap (λ (zs : _). a ++ zs) (append-nil b)
