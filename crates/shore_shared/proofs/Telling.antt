-- A client is told one more answer; one more client is done; one more job is; and in the end the trail has what was claimed.
use Rattle.std.proofs.Common.{◌≡◌, ◌≤◌, ◌+◌, ℕ, Bool, true, suc, List, [], ◌∷◌, ◌++◌, All, IfErr, IfOk, IsSome, None, Option, Some, Result, Ok, Err, length, map, take, arith, refl, sym, ap, subst, ◌∙◌, append-nil, append_assoc}
use Rattle.std.proofs.Math.Logic.{∥∥₁_map}
use Rattle.std.proofs.lemmas.Bool.{true≢false}
use Rattle.std.proofs.lemmas.List.{length-map}
use Rattle.shore_types.specs.declared.faults.Fault.{Fault}
use Rattle.shore_model.specs.declared.calls.Answer.{Answer}
use Rattle.shore_model.specs.declared.calls.Call.{Call}
use Rattle.shore_model.specs.declared.calls.Exchange.{Exchange}
use Rattle.shore_words.specs.declared.rule.Heard.{Heard}
use Rattle.shore_words.specs.declared.rule.Noted.{Noted}
use Rattle.shore_words.specs.Words.{AreBy, heard_of}
use Rattle.std.specs.declared.snapshot.Snapshot.{Snapshot}
use Rattle.shore_shared.specs.Heard.{Hears}
use Rattle.shore_shared.specs.Told.{AreAllClaimed, AreClaimed, AreFresh, AreInTrail, AreTold, ClaimsHold, HasHeardSince, IsClaimed, IsWithin, Seen, Shown, exchanges_in, numbered}
use Rattle.shore_shared.proofs.Hearing.{hears_on}

told_more : (failed : Bool) (es : List Exchange) (heard : List Heard) (c : Call) (r : Result Answer Fault) (more : List Heard) → AreTold failed es heard → Hears failed c (Some c) more r
    → AreTold failed (es ++ record { call = c; reply = r } ∷ []) (heard ++ more)
told_more failed [] heard c r more none hears = (more, [], ap (λ hs. hs ++ more) none ∙ sym (append-nil more), hears, refl)
told_more failed (e ∷ es) heard c r more (first, rest, parts, was, told) hears =
    (first, rest ++ more, ap (λ hs. hs ++ more) parts ∙ append_assoc first rest more, was, told_more failed es rest c r more told hears)

-- what was told is told, whatever is found later
pub told_on : (failed later : Bool) → (failed ≡ true → later ≡ true) → (es : List Exchange) (heard : List Heard) → AreTold failed es heard → AreTold later es heard
told_on failed later on [] heard none = none
told_on failed later on (e ∷ es) heard (first, rest, parts, hears, told) = (first, rest, parts, hears_on failed later on e.call (Some e.call) first e.reply hears, told_on failed later on es rest told)

exchanges_snoc : (xs : List (Snapshot Call × Result Answer Fault)) (x : Snapshot Call × Result Answer Fault)
    → exchanges_in (xs ++ x ∷ []) ≡ exchanges_in xs ++ record { call = x.0.value; reply = x.1 } ∷ []
exchanges_snoc [] x = refl
exchanges_snoc (y ∷ xs) x = ap (λ es. record { call = y.0.value; reply = y.1 } ∷ es) (exchanges_snoc xs x)

pub exchanges_after : (xs : List (Snapshot Call × Result Answer Fault)) (x : Snapshot Call × Result Answer Fault) (c : Call) (r : Result Answer Fault) → x.0.value ≡ c → x.1 ≡ r
    → exchanges_in (xs ++ x ∷ []) ≡ exchanges_in xs ++ record { call = c; reply = r } ∷ []
exchanges_after xs x c r asked replied = exchanges_snoc xs x ∙ (λ i. exchanges_in xs ++ record { call = asked i; reply = replied i } ∷ [])

-- one more call is answered
pub heard_more : (failed found : Bool) → (failed ≡ true → found ≡ true) → (before heard later : List Heard) (xs : List (Snapshot Call × Result Answer Fault)) (x : Snapshot Call × Result Answer Fault) (c : Call) (r : Result Answer Fault) (more : List Heard)
    → x.0.value ≡ c → x.1 ≡ r → later ≡ heard ++ more → Hears found c (Some c) more r → HasHeardSince failed before heard (exchanges_in xs) → HasHeardSince found before later (exchanges_in (xs ++ x ∷ []))
heard_more failed found on before heard later xs x c r more asked replied grown hears (since, parts, told) = (
  since ++ more,
  grown ∙ ap (λ hs. hs ++ more) parts ∙ append_assoc before since more,
  subst (λ l. AreTold found l (since ++ more)) (sym (exchanges_after xs x c r asked replied)) (told_more found (exchanges_in xs) since c r more (told_on failed found on (exchanges_in xs) since told) hears),
)

-- no call was made yet
pub heard_none : (failed : Bool) (heard : List Heard) → HasHeardSince failed heard heard []
heard_none failed heard = ([], sym (append-nil heard), refl)

-- one more client is done
pub claimed_snoc : {D : Type 0} (says : ℕ → D → List Exchange → Seen → Type 0) (client : ℕ) (bs : List Shown) (ds : List D) (later : List Shown) (b : Shown) (d : D) (a : Shown) → AreClaimed says client bs ds later
    → IsClaimed (says (client + length ds) d) b a → AreClaimed says client (bs ++ b ∷ []) (ds ++ d ∷ []) (later ++ a ∷ [])
claimed_snoc says client [] [] [] b d a none is = (subst (λ n. IsClaimed (says n d) b a) (omega arith) is, tt)
claimed_snoc says client [] [] (x ∷ later) b d a none is = absurd none
claimed_snoc says client [] (x ∷ ds) later b d a none is = absurd none
claimed_snoc says client (x ∷ bs) [] later b d a none is = absurd none
claimed_snoc says client (x ∷ bs) (y ∷ ds) [] b d a none is = absurd none
claimed_snoc says client (x ∷ bs) (y ∷ ds) (z ∷ later) b d a were is =
    (were.0, claimed_snoc says (client + 1) bs ds later b d a were.1 (subst (λ n. IsClaimed (says n d) b a) (omega arith) is))

-- what a client's thread comes to
pub claims : (says : List Exchange → Seen → Type 0) (before after : Shown) (es : List Exchange) → after.session ≡ before.session → IsWithin before.seen after.seen → ∥ HasHeardSince after.seen.failed before.heard after.heard es ∥₁ → says es after.seen
    → IsClaimed says before after
claims says before after es same seen heard said =
    let claim : HasHeardSince after.seen.failed before.heard after.heard es → ((xs : List Exchange) × HasHeardSince after.seen.failed before.heard after.heard xs × says xs after.seen) = λ h. (es, h, said) in
    (same, seen, ∥∥₁_map heard claim)

-- one more job is done
pub all_claimed_snoc : {J D : Type 0} (says : J → ℕ → D → List Exchange → Seen → Type 0) (before : List Shown) (js : List J) (rows : List (List D)) (between : List Shown) (j : J) (ds : List D) (after : List Shown)
    → AreAllClaimed says before js rows between → AreClaimed (says j) 0 between ds after → AreAllClaimed says before (js ++ j ∷ []) (rows ++ ds ∷ []) after
all_claimed_snoc says before [] [] between j ds after same is = (after, subst (λ bs. AreClaimed (says j) 0 bs ds after) same is, refl)
all_claimed_snoc says before [] (r ∷ rows) between j ds after were is = absurd were
all_claimed_snoc says before (k ∷ js) [] between j ds after were is = absurd were
all_claimed_snoc says before (k ∷ js) (r ∷ rows) between j ds after (next, one, were) is = (next, one, all_claimed_snoc says next js rows between j ds after were is)

-- The sessions keep their numbers.
abbrev numbers_of : List Shown → List ℕ
numbers_of ss = map (λ s. s.session) ss

same_numbers : {D : Type 0} (says : ℕ → D → List Exchange → Seen → Type 0) (client : ℕ) (bs : List Shown) (ds : List D) (later : List Shown) → AreClaimed says client bs ds later → numbers_of later ≡ numbers_of bs
same_numbers says client [] [] [] is = refl
same_numbers says client [] [] (x ∷ later) is = absurd is
same_numbers says client [] (x ∷ ds) later is = absurd is
same_numbers says client (x ∷ bs) [] later is = absurd is
same_numbers says client (x ∷ bs) (y ∷ ds) [] is = absurd is
same_numbers says client (x ∷ bs) (y ∷ ds) (z ∷ later) (one, others) = (λ i. one.0 i ∷ same_numbers says (client + 1) bs ds later others i)

all_same_numbers : {J D : Type 0} (says : J → ℕ → D → List Exchange → Seen → Type 0) (before : List Shown) (js : List J) (rows : List (List D)) (after : List Shown) → AreAllClaimed says before js rows after → numbers_of after ≡ numbers_of before
all_same_numbers says before [] [] after same = ap numbers_of same
all_same_numbers says before [] (r ∷ rows) after were = absurd were
all_same_numbers says before (k ∷ js) [] after were = absurd were
all_same_numbers says before (k ∷ js) (r ∷ rows) after (next, one, were) = all_same_numbers says next js rows after were ∙ same_numbers (says k) 0 before r next one

-- numbers from this one on
abbrev numbers_from : ℕ → List Shown → List ℕ
numbers_from n [] = []
numbers_from n (s ∷ ss) = n ∷ numbers_from (n + 1) ss

fresh_numbers : (n : ℕ) (ss : List Shown) → AreFresh n ss → numbers_of ss ≡ numbers_from n ss
fresh_numbers n [] is = refl
fresh_numbers n (s ∷ ss) (one, none, others) = (λ i. one i ∷ fresh_numbers (n + 1) ss others i)

abbrev tail_of : List ℕ → List ℕ
tail_of [] = []
tail_of (n ∷ ns) = ns

abbrev head_of : List ℕ → ℕ
head_of [] = 0
head_of (n ∷ ns) = n

abbrev filled : List ℕ → Type 0
filled [] = ⊥
filled (n ∷ ns) = Unit {0}

-- All that the trail has of these sessions is what they have heard.
in_trail : {A : Type 0} (shown : A → Shown) (noted : List Noted) (is : Seen) (n : ℕ) (first : List Shown) (xs : List A) → numbers_of (map shown xs) ≡ numbers_from n first
    → All (λ x. heard_of (shown x).session noted ≡ (shown x).heard) xs → All (λ x. IsWithin (shown x).seen is) xs → AreInTrail noted is n (map shown xs)
in_trail shown noted is n first [] same heard seen = tt
in_trail shown noted is n [] (x ∷ xs) same heard seen = absurd (subst filled same tt)
in_trail shown noted is n (f ∷ first) (x ∷ xs) same heard seen = (
  ap head_of same,
  subst (λ k. heard_of k noted ≡ (shown x).heard) (ap head_of same) (heard 0 x (omega arith)),
  seen 0 x (omega arith),
  in_trail shown noted is (n + 1) first xs (ap tail_of same) (λ k d low. heard (suc k) d (omega (arith, low))) (λ k d low. seen (suc k) d (omega (arith, low))),
)

-- So what was claimed holds in the end.
pub hold : {J D A : Type 0} (says : J → ℕ → D → List Exchange → Seen → Type 0) (shown : A → Shown) (noted : List Noted) (is : Seen) (clients : ℕ) (jobs : List J) (rows : List (List D)) (xs : List A) (first : List Shown)
    → length first ≡ clients → AreFresh 1 first → AreAllClaimed says first jobs rows (map shown xs) → All (λ x. heard_of (shown x).session noted ≡ (shown x).heard) xs → All (λ x. IsWithin (shown x).seen is) xs
    → ClaimsHold says noted is clients jobs rows
hold says shown noted is clients jobs rows xs first many fresh claimed heard seen =
    (first, map shown xs, many, fresh, claimed, in_trail shown noted is 1 first xs (all_same_numbers says first jobs rows (map shown xs) claimed ∙ fresh_numbers 1 first fresh) heard seen)

-- .. and as many sessions have ended as there are clients
pub as_many : {J D A : Type 0} (says : J → ℕ → D → List Exchange → Seen → Type 0) (shown : A → Shown) (noted : List Noted) (clients : ℕ) (jobs : List J) (rows : List (List D)) (xs : List A) (first : List Shown)
    → length first ≡ clients → AreAllClaimed says first jobs rows (map shown xs) → AreBy (length xs) noted → AreBy clients noted
as_many says shown noted clients jobs rows xs first many claimed by =
    let long : length xs ≡ clients = sym (length-map xs shown) ∙ sym (length-map (map shown xs) (λ s. s.session)) ∙ ap length (all_same_numbers says first jobs rows (map shown xs) claimed) ∙ length-map first (λ s. s.session) ∙ many in
    subst (λ n. AreBy n noted) long by

pub if_ok : {A F : Type 0} (r : Result A F) (P Q : A → Type 0) → ((a : A) → P a → Q a) → IfOk r P → IfOk r Q
if_ok (Ok a) P Q f p = f a p
if_ok (Err e) P Q f p = tt

-- .. and one more session is fresh.
pub fresh_snoc : (n : ℕ) (ss : List Shown) (s : Shown) → AreFresh n ss → s.session ≡ n + length ss → s.heard ≡ [] → AreFresh n (ss ++ s ∷ [])
fresh_snoc n [] s none is silent = (is ∙ omega arith, silent, tt)
fresh_snoc n (x ∷ ss) s (one, none, others) is silent = (one, none, fresh_snoc (n + 1) ss s others (is ∙ omega arith) silent)

-- A list that is not empty.
abbrev full : {X : Type 0} → List X → Type 0
full [] = ⊥
full (x ∷ xs) = Unit {0}

abbrev first_of : ℕ × Shown → List (ℕ × Shown) → ℕ × Shown
first_of d [] = d
first_of d (x ∷ xs) = x

abbrev after_first : List (ℕ × Shown) → List (ℕ × Shown)
after_first [] = []
after_first (x ∷ xs) = xs

pub map_snoc : {X Y : Type 0} (f : X → Y) (xs : List X) (x : X) → map f (xs ++ x ∷ []) ≡ map f xs ++ f x ∷ []
map_snoc f [] x = refl
map_snoc f (y ∷ xs) x = ap (λ ys. f y ∷ ys) (map_snoc f xs x)

length_snoc : {X : Type 0} (xs : List X) (x : X) → length (xs ++ x ∷ []) ≡ length xs + 1
length_snoc [] x = refl
length_snoc (y ∷ xs) x = omega (arith, length_snoc xs x)

-- One more client's thread was started.
pub spawned : {H : Type 0} (f : H → ℕ × Shown) (hs : List H) (h : H) (n : ℕ) (s : Shown) (ss : List Shown) → f h ≡ (n, s) → map f (hs ++ h ∷ []) ++ numbered (n + 1) ss ≡ map f hs ++ numbered n (s ∷ ss)
spawned f [] h n s ss is = λ i. is i ∷ numbered (n + 1) ss
spawned f (x ∷ hs) h n s ss is = ap (λ ys. f x ∷ ys) (spawned f hs h n s ss is)

-- How far threads are joined: of the clients from the first on these came to that, and these are left.
pub record Joined {H D : Type 0} (f : H → ℕ × Shown) (says : ℕ → D → List Exchange → Seen → Type 0) (first : List Shown) (rest : List H) (ds : List D) (backs : List Shown) : Type 0 where
  pub done : List Shown
  pub left : List Shown
  pub parts : first ≡ done ++ left
  pub threads : map f rest ≡ numbered (length done) left
  pub many : length done ≡ length ds
  pub claimed : AreClaimed says 0 done ds backs

pub joined_none : {H D : Type 0} (f : H → ℕ × Shown) (says : ℕ → D → List Exchange → Seen → Type 0) (first : List Shown) (rest : List H) → map f rest ≡ numbered 0 first → Joined f says first rest [] []
joined_none f says first rest threads = record { done = []; left = first; parts = refl; threads = threads; many = refl; claimed = tt }

more_joined : {H D : Type 0} (f : H → ℕ × Shown) (says : ℕ → D → List Exchange → Seen → Type 0) (first : List Shown) (h : H) (rest : List H) (ds : List D) (d : D) (backs : List Shown) (a : Shown)
    → IsClaimed (says (f h).0 d) (f h).1 a → (done left : List Shown) → first ≡ done ++ left → map f (h ∷ rest) ≡ numbered (length done) left → length done ≡ length ds → AreClaimed says 0 done ds backs
    → Joined f says first rest (ds ++ d ∷ []) (backs ++ a ∷ [])
more_joined f says first h rest ds d backs a is done [] parts threads many claimed = absurd (subst full threads tt)
more_joined f says first h rest ds d backs a is done (p ∷ left) parts threads many claimed =
    let here : f h ≡ (length done, p) = ap (first_of (f h)) threads in
    record {
      done = done ++ p ∷ [];
      left = left;
      parts = parts ∙ sym (append_assoc done (p ∷ []) left);
      threads = ap after_first threads ∙ ap (λ n. numbered n left) (sym (length_snoc done p));
      many = length_snoc done p ∙ ap (λ n. n + 1) many ∙ sym (length_snoc ds d);
      claimed = claimed_snoc says 0 done ds backs p d a claimed (subst (λ n. IsClaimed (says n d) p a) (many ∙ omega arith) (subst (λ (x : ℕ × Shown). IsClaimed (says x.0 d) x.1 a) here is));
    }

pub joined_more : {H D : Type 0} (f : H → ℕ × Shown) (says : ℕ → D → List Exchange → Seen → Type 0) (first : List Shown) (h : H) (rest : List H) (ds : List D) (d : D) (backs : List Shown) (a : Shown)
    → IsClaimed (says (f h).0 d) (f h).1 a → Joined f says first (h ∷ rest) ds backs → Joined f says first rest (ds ++ d ∷ []) (backs ++ a ∷ [])
joined_more f says first h rest ds d backs a is j = more_joined f says first h rest ds d backs a is j.done j.left j.parts j.threads j.many j.claimed

all_joined : {D : Type 0} (says : ℕ → D → List Exchange → Seen → Type 0) (first : List Shown) (ds : List D) (backs done left : List Shown) → first ≡ done ++ left → [] ≡ numbered (length done) left → AreClaimed says 0 done ds backs
    → AreClaimed says 0 first ds backs
all_joined says first ds backs done [] parts threads claimed = subst (λ bs. AreClaimed says 0 bs ds backs) (sym (parts ∙ append-nil done)) claimed
all_joined says first ds backs done (p ∷ left) parts threads claimed = absurd (subst full (sym threads) tt)

pub joined_all : {H D : Type 0} (f : H → ℕ × Shown) (says : ℕ → D → List Exchange → Seen → Type 0) (first : List Shown) (ds : List D) (backs : List Shown) → Joined f says first [] ds backs → AreClaimed says 0 first ds backs
joined_all f says first ds backs j = all_joined says first ds backs j.done j.left j.parts j.threads j.claimed

pub joined_next : {H D J : Type 0} (f : H → ℕ × Shown) (says : J → ℕ → D → List Exchange → Seen → Type 0) (asked : H → J) (j : J) (first : List Shown) (h : H) (was rest : List H) (ds more : List D) (d : D) (backs shown : List Shown) (a : Shown)
    → was ≡ h ∷ rest → more ≡ ds ++ d ∷ [] → shown ≡ backs ++ a ∷ [] → asked h ≡ j → IsClaimed (says (asked h) (f h).0 d) (f h).1 a → Joined f (says j) first was ds backs → Joined f (says j) first rest more shown
joined_next f says asked j first h was rest ds more d backs shown a next pushed back for is joined =
    let now : Joined f (says j) first rest (ds ++ d ∷ []) (backs ++ a ∷ []) =
    joined_more f (says j) first h rest ds d backs a (subst (λ x. IsClaimed (says x (f h).0 d) (f h).1 a) for is) (subst (λ hs. Joined f (says j) first hs ds backs) next joined) in
    subst (λ xs. Joined f (says j) first rest xs shown) (sym pushed) (subst (λ ss. Joined f (says j) first rest (ds ++ d ∷ []) ss) (sym back) now)

pub joined_end : {H D : Type 0} (f : H → ℕ × Shown) (says : ℕ → D → List Exchange → Seen → Type 0) (first : List Shown) (rest : List H) (ds : List D) (backs : List Shown) → length rest ≡ 0 → Joined f says first rest ds backs
    → AreClaimed says 0 first ds backs
joined_end f says first [] ds backs none j = joined_all f says first ds backs j
joined_end f says first (h ∷ rest) ds backs none j = absurd (omega (arith, none))

-- the claim of an answer that is Ok
pub is_ok : {A F : Type 0} (r : Result A F) (a : A) (P : A → Type 0) → r ≡ Ok a → IfOk r P → P a
is_ok r a P same p = subst (λ x. IfOk x P) same p

-- What is so of an answer that is Ok, as nothing came out at once.
pub ok_of : {A F X : Type 0} (r : Result A F) (x : Option X) (P Q : A → Type 0) (N : F → Type 0) → IfOk r P → IfOk r (λ a. Q a × (x ≡ None)) → IfErr r (λ e. N e × IsSome x) → x ≡ None → (a : A) × P a × Q a
ok_of (Ok a) x P Q N p q none is = (a, p, q.0)
ok_of (Err e) x P Q N p q none is = absurd (true≢false (sym (subst IsSome is none.1)))

pub nothing_left : {A : Type 0} (shown : A → Shown) (rest : List A) (n : ℕ) (xs ys : List (ℕ × Shown)) → length rest ≡ 0 → xs ++ numbered n (map shown rest) ≡ ys → xs ≡ ys
nothing_left shown [] n xs ys none is = sym (append-nil xs) ∙ is
nothing_left shown (x ∷ rest) n xs ys none is = absurd (omega (arith, none))

-- One job of a row of jobs was done by all.
pub turn_done : {J D V : Type 0} (says : J → ℕ → D → List Exchange → Seen → Type 0) (items : V → List D) (before : List Shown) (jobs : List J) (i : ℕ) (j : J) (rows more : List V) (v : V) (between after : List Shown)
    → take (i + 1) jobs ≡ take i jobs ++ j ∷ [] → more ≡ rows ++ v ∷ [] → AreAllClaimed says before (take i jobs) (map items rows) between → AreClaimed (says j) 0 between (items v) after
    → AreAllClaimed says before (take (i + 1) jobs) (map items more) after
turn_done says items before jobs i j rows more v between after taken pushed were is =
    subst (λ js. AreAllClaimed says before js (map items more) after) (sym taken)
    (subst (λ ds. AreAllClaimed says before (take i jobs ++ j ∷ []) ds after) (sym (ap (map items) pushed ∙ map_snoc items rows v))
    (all_claimed_snoc says before (take i jobs) (map items rows) between j (items v) after were is))

-- One more session is made.
pub session_made : {A : Type 0} (shown : A → Shown) (xs more : List A) (x : A) (count : ℕ) → more ≡ xs ++ x ∷ [] → length xs ≡ count → AreFresh 1 (map shown xs) → (shown x).session ≡ count + 1 → (shown x).heard ≡ []
    → AreFresh 1 (map shown more)
session_made shown xs more x count pushed long fresh is silent =
    subst (AreFresh 1) (sym (ap (map shown) pushed ∙ map_snoc shown xs x)) (fresh_snoc 1 (map shown xs) (shown x) fresh (is ∙ omega (arith, long, length-map xs shown)) silent)
