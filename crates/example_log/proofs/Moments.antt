-- Calls in one list, one part after the other.
use Rattle.std.proofs.Common.{◌≡◌, refl, sym, ap, subst, ◌∙◌, List, [], ◌∷◌, ◌++◌, map, append_assoc}
use Rattle.bp_ports.specs.Files.{Transfer, StoreSync}
use Rattle.example_log.specs.Disk.{DeviceCall, Reads, Writes, Syncs, Did}
use Rattle.example_log.specs.Files.{FileCall, FileDid}
use Rattle.example_log.specs.Moments.{AtEach, Made, Step, Stores, log_in, pages_in, spare_in}
use Rattle.example_log.specs.Moments.Step.{OfPages, OfLog, OfSpare}

-- ---- the calls of each

pub pages-append : (newer older : List Step) → pages_in (newer ++ older) ≡ pages_in newer ++ pages_in older
pages-append [] older = refl
pages-append (OfPages call ∷ newer) older = ap (λ (t : List DeviceCall). call ∷ t) (pages-append newer older)
pages-append (OfLog call ∷ newer) older = pages-append newer older
pages-append (OfSpare call ∷ newer) older = pages-append newer older

pub log-append : (newer older : List Step) → log_in (newer ++ older) ≡ log_in newer ++ log_in older
log-append [] older = refl
log-append (OfPages call ∷ newer) older = log-append newer older
log-append (OfLog call ∷ newer) older = ap (λ (t : List FileCall). call ∷ t) (log-append newer older)
log-append (OfSpare call ∷ newer) older = log-append newer older

pub spare-append : (newer older : List Step) → spare_in (newer ++ older) ≡ spare_in newer ++ spare_in older
spare-append [] older = refl
spare-append (OfPages call ∷ newer) older = spare-append newer older
spare-append (OfLog call ∷ newer) older = spare-append newer older
spare-append (OfSpare call ∷ newer) older = ap (λ (t : List FileCall). call ∷ t) (spare-append newer older)

pub pages-more : (newer older : List Step) (calls : List DeviceCall) → pages_in (newer ++ older) ++ calls ≡ pages_in newer ++ (pages_in older ++ calls)
pages-more newer older calls = ap (λ (t : List DeviceCall). t ++ calls) (pages-append newer older) ∙ append_assoc (pages_in newer) (pages_in older) calls

pub log-more : (newer older : List Step) (calls : List FileCall) → log_in (newer ++ older) ++ calls ≡ log_in newer ++ (log_in older ++ calls)
log-more newer older calls = ap (λ (t : List FileCall). t ++ calls) (log-append newer older) ∙ append_assoc (log_in newer) (log_in older) calls

pub of-pages : (calls : List DeviceCall) → (pages_in (map OfPages calls) ≡ calls) × (log_in (map OfPages calls) ≡ []) × (spare_in (map OfPages calls) ≡ [])
of-pages [] = (refl, refl, refl)
of-pages (call ∷ calls) = let h = of-pages calls in (ap (λ (t : List DeviceCall). call ∷ t) h.0, h.1, h.2)

pub of-log : (calls : List FileCall) → (pages_in (map OfLog calls) ≡ []) × (log_in (map OfLog calls) ≡ calls) × (spare_in (map OfLog calls) ≡ [])
of-log [] = (refl, refl, refl)
of-log (call ∷ calls) = let h = of-log calls in (h.0, ap (λ (t : List FileCall). call ∷ t) h.1, h.2)

pub of-spare : (calls : List FileCall) → (pages_in (map OfSpare calls) ≡ []) × (log_in (map OfSpare calls) ≡ []) × (spare_in (map OfSpare calls) ≡ calls)
of-spare [] = (refl, refl, refl)
of-spare (call ∷ calls) = let h = of-spare calls in (h.0, h.1, ap (λ (t : List FileCall). call ∷ t) h.2)

-- ---- what was made

module _ {P S : Type 0} (page_reads : Reads P) (page_writes : Writes P) (page_syncs : Syncs P) (reads writes : P → Transfer S) (syncs : P → StoreSync S) where
  abbrev Led : Stores P S → List Step → Stores P S → Type 0
  Led = Made page_reads page_writes page_syncs reads writes syncs

  pub made-append : (a b c : Stores P S) (newer older : List Step) → Led a older b → Led b newer c → Led a (newer ++ older) c
  made-append a b c [] older h k = subst (λ x. Led a older x) (sym k) h
  made-append a b c (OfPages call ∷ newer) older h k = (k.0, made-append a b k.0 newer older h k.1, k.2, k.3, k.4)
  made-append a b c (OfLog call ∷ newer) older h k = (k.0, made-append a b k.0 newer older h k.1, k.2, k.3, k.4)
  made-append a b c (OfSpare call ∷ newer) older h k = (k.0, made-append a b k.0 newer older h k.1, k.2, k.3, k.4)

  pub made-pages : (port after : P) (log spare : S) (calls : List DeviceCall) → Did page_reads page_writes page_syncs port calls after
      → Led (record { port = port; log = log; spare = spare }) (map OfPages calls) (record { port = after; log = log; spare = spare })
  made-pages port after log spare [] h = ap (λ (x : P). record { port = x; log = log; spare = spare }) h
  made-pages port after log spare (call ∷ calls) h = (record { port = h.0; log = log; spare = spare }, made-pages port h.0 log spare calls h.1, h.2, refl, refl)

  pub made-log : (port : P) (log after spare : S) (calls : List FileCall) → FileDid (reads port) (writes port) (syncs port) log calls after
      → Led (record { port = port; log = log; spare = spare }) (map OfLog calls) (record { port = port; log = after; spare = spare })
  made-log port log after spare [] h = ap (λ (x : S). record { port = port; log = x; spare = spare }) h
  made-log port log after spare (call ∷ calls) h = (record { port = port; log = h.0; spare = spare }, made-log port log h.0 spare calls h.1, h.2, refl, refl)

  pub made-spare : (port : P) (log spare after : S) (calls : List FileCall) → FileDid (reads port) (writes port) (syncs port) spare calls after
      → Led (record { port = port; log = log; spare = spare }) (map OfSpare calls) (record { port = port; log = log; spare = after })
  made-spare port log spare after [] h = ap (λ (x : S). record { port = port; log = log; spare = x }) h
  made-spare port log spare after (call ∷ calls) h = (record { port = port; log = log; spare = h.0 }, made-spare port log spare h.0 calls h.1, h.2, refl, refl)

-- ---- what holds at each moment

module _ {A : Type 0} where
  pub each-last : (So : List A → Type 0) (xs : List A) → AtEach So xs → So xs
  each-last So [] h = h
  each-last So (x ∷ xs) h = h.0

  pub each-first : (So : List A → Type 0) (xs : List A) → AtEach So xs → So []
  each-first So [] h = h
  each-first So (x ∷ xs) h = each-first So xs h.1

  pub each-map : (R S : List A → Type 0) → ((xs : List A) → R xs → S xs) → (xs : List A) → AtEach R xs → AtEach S xs
  each-map R S f [] h = f [] h
  each-map R S f (x ∷ xs) h = (f (x ∷ xs) h.0, each-map R S f xs h.1)

  pub each-append : (So : List A → Type 0) (newer older : List A) → AtEach So older → AtEach (λ xs. So (xs ++ older)) newer → AtEach So (newer ++ older)
  each-append So [] older h k = h
  each-append So (x ∷ newer) older h k = (k.0, each-append So newer older h k.1)

  -- at whatever moment it is stopped
  pub at-moment : (So : List A → Type 0) (xs later so_far : List A) → AtEach So xs → xs ≡ later ++ so_far → So so_far
  at-moment So xs [] so_far h e = each-last So so_far (subst (AtEach So) e h)
  at-moment So [] (y ∷ later) so_far h e = absurd (cc)
  at-moment So (x ∷ xs) (y ∷ later) so_far h e = at-moment So xs later so_far h.1 (tail-same e)
    where
      tail-same : x ∷ xs ≡ y ∷ (later ++ so_far) → xs ≡ later ++ so_far
      tail-same e = cc

  -- what holds at each moment of calls of which each is the calls so far of the last
  pub each-from : (So : List A → Type 0) (all : List A) → ((later so_far : List A) → all ≡ later ++ so_far → So so_far) → AtEach So all
  each-from So all f = go [] all refl
    where
      move : (later : List A) (x : A) (xs : List A) → all ≡ later ++ x ∷ xs → all ≡ (later ++ x ∷ []) ++ xs
      move later x xs e = e ∙ sym (append_assoc later (x ∷ []) xs)

      go : (later xs : List A) → all ≡ later ++ xs → AtEach So xs
      go later [] e = f later [] e
      go later (x ∷ xs) e = (f later (x ∷ xs) e, go (later ++ x ∷ []) xs (move later x xs e))

  pub each-both : (R S : List A → Type 0) (xs : List A) → AtEach R xs → AtEach S xs → AtEach (λ so_far. R so_far × S so_far) xs
  each-both R S [] h k = (h, k)
  each-both R S (x ∷ xs) h k = ((h.0, k.0), each-both R S xs h.1 k.1)

pub never-spare : (xs : List Step) → spare_in xs ≡ [] → AtEach (λ so_far. spare_in so_far ≡ []) xs
never-spare [] e = e
never-spare (OfPages call ∷ xs) e = (e, never-spare xs e)
never-spare (OfLog call ∷ xs) e = (e, never-spare xs e)
never-spare (OfSpare call ∷ xs) e = absurd (cc)

pub each-spare : (R : List FileCall → Type 0) (calls : List FileCall) → AtEach R calls → AtEach (λ so_far. R (spare_in so_far) × (pages_in so_far ≡ []) × (log_in so_far ≡ [])) (map OfSpare calls)
each-spare R [] h = (h, refl, refl)
each-spare R (call ∷ calls) h = let k = of-spare (call ∷ calls) in ((subst R (sym k.2) h.0, k.0, k.1), each-spare R calls h.1)

-- at each moment the calls so far are the older ones of all
pub each-of-log : (So : List Step → Type 0) (all : List FileCall) → ((later so_far : List FileCall) → all ≡ later ++ so_far → So (map OfLog so_far)) → AtEach So (map OfLog all)
each-of-log So all f = go [] all refl
  where
    go : (later xs : List FileCall) → all ≡ later ++ xs → AtEach So (map OfLog xs)
    go later [] e = f later [] e
    go later (x ∷ xs) e = (f later (x ∷ xs) e, go (later ++ x ∷ []) xs (e ∙ sym (append_assoc later (x ∷ []) xs)))

pub each-of-pages : (So : List Step → Type 0) (all : List DeviceCall) → ((later so_far : List DeviceCall) → all ≡ later ++ so_far → So (map OfPages so_far)) → AtEach So (map OfPages all)
each-of-pages So all f = go [] all refl
  where
    go : (later xs : List DeviceCall) → all ≡ later ++ xs → AtEach So (map OfPages xs)
    go later [] e = f later [] e
    go later (x ∷ xs) e = (f later (x ∷ xs) e, go (later ++ x ∷ []) xs (e ∙ sym (append_assoc later (x ∷ []) xs)))

pub each-page-call : (R : List DeviceCall → Type 0) (calls : List DeviceCall) → AtEach R calls → AtEach (λ so_far. R (pages_in so_far) × (log_in so_far ≡ []) × (spare_in so_far ≡ [])) (map OfPages calls)
each-page-call R [] h = (h, refl, refl)
each-page-call R (call ∷ calls) h = let k = of-pages (call ∷ calls) in ((subst R (sym k.0) h.0, k.1, k.2), each-page-call R calls h.1)
