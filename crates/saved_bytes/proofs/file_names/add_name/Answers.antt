use Rattle.std.proofs.Common.{◌≡◌, ◌∙◌, ap, arith, length, List, ℕ}
use Rattle.std.specs.Borrow.{Bor}
use Rattle.std.proofs.lemmas.List.{length-map, map_push}
use Rattle.saved_bytes.specs.FileNames.{file_index, texts}
use Rattle.saved_bytes.proofs.Files.{known_kept, known_pushed, index_most}
use Rattle.saved_bytes.proofs.file_names.add_name.Goals as goal

pub returns-in_ok-push-clause-there : goal.returns-in_ok-push-clause-there
returns-in_ok-push-clause-there c = rw (c.in_ok-push.ensures.items, map_push (λ f. f.now) c.args.names.now.items c.args.file)
    (known_pushed (texts c.args.names.now.items) c.args.file.now)

pub returns-in_ok-push-clause-kept : goal.returns-in_ok-push-clause-kept
returns-in_ok-push-clause-kept c = λ text known. rw (c.in_ok-push.ensures.items, map_push (λ f. f.now) c.args.names.now.items c.args.file)
    (known_kept (texts c.args.names.now.items) c.args.file.now text known)

pub returns-else-file_index-len-clause-there : goal.returns-else-file_index-len-clause-there
returns-else-file_index-len-clause-there c =
    let names = c.args.names.now.items in
    let most = index_most (texts names) c.args.file.now in
    let number : c.file_index.result ≡ file_index (texts names) c.args.file.now =
    c.file_index.ensures ∙ ap (λ (l : List (Bor (List ℕ))). file_index (texts l) c.args.file.now) c.as_slice.ensures.value in
    let long = ap (λ (l : List (Bor (List ℕ))). length l) c.as_slice.ensures.value in
    let many = length-map names (λ (f : Bor (List ℕ)). f.now) in
    omega arith
