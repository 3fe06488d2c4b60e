use Rattle.std.proofs.Common.{◌≡◌, Err, rules}
use Rattle.page_codec.specs.declared.damaged.Damaged.TheVariants as reason
use Rattle.page_codec.proofs.RootBytes.{HasBody, root_has_magic, without_version, judged}
use Rattle.page_codec.proofs.root.Root.read.Goals as goal

pub returns-in_err-rest-clause-only : goal.returns-in_err-rest-clause-only
returns-in_err-rest-clause-only c = λ r rules spelled. absurd (c.in_err-rest.ensures.none.1 (root_has_magic c.args.bytes.now r spelled))

pub returns-in_err-version-clause-only : goal.returns-in_err-version-clause-only
returns-in_err-version-clause-only c =
    let is : c.from_residual-in_err-version.result ≡ Err reason.Version = search (rules, c.in_err-version.ensures.none.0) in
    rw is (without_version c.args.bytes.now c.in_ok-rest.rest.now c.in_ok-rest.ensures.found c.in_err-version.ensures.none.1).only

pub returns-in_err-version-clause-magic : goal.returns-in_err-version-clause-magic
returns-in_err-version-clause-magic c =
    let is : c.from_residual-in_err-version.result ≡ Err reason.Version = search (rules, c.in_err-version.ensures.none.0) in
    rw is (without_version c.args.bytes.now c.in_ok-rest.rest.now c.in_ok-rest.ensures.found c.in_err-version.ensures.none.1).no_magic

pub returns-in_err-version-clause-version : goal.returns-in_err-version-clause-version
returns-in_err-version-clause-version c =
    let is : c.from_residual-in_err-version.result ≡ Err reason.Version = search (rules, c.in_err-version.ensures.none.0) in
    rw is (without_version c.args.bytes.now c.in_ok-rest.rest.now c.in_ok-rest.ensures.found c.in_err-version.ensures.none.1).no_version

pub returns-clause-found : goal.returns-clause-found
returns-clause-found c =
    let body : HasBody c.in_ok-version.version c.args.bytes.now c.in_ok-rest.rest.now c.in_ok-version.body.now = record { known = c.in_ok-version.ensures.known; front = c.in_ok-rest.ensures.found; next = c.in_ok-version.ensures.found } in
    rw c.ok_or.ensures.value (judged _ _ _ _ c.parse.result body c.parse.ensures.found c.parse.ensures.none).found

pub returns-clause-only : goal.returns-clause-only
returns-clause-only c =
    let body : HasBody c.in_ok-version.version c.args.bytes.now c.in_ok-rest.rest.now c.in_ok-version.body.now = record { known = c.in_ok-version.ensures.known; front = c.in_ok-rest.ensures.found; next = c.in_ok-version.ensures.found } in
    rw c.ok_or.ensures.value (judged _ _ _ _ c.parse.result body c.parse.ensures.found c.parse.ensures.none).only

pub returns-clause-magic : goal.returns-clause-magic
returns-clause-magic c =
    let body : HasBody c.in_ok-version.version c.args.bytes.now c.in_ok-rest.rest.now c.in_ok-version.body.now = record { known = c.in_ok-version.ensures.known; front = c.in_ok-rest.ensures.found; next = c.in_ok-version.ensures.found } in
    rw c.ok_or.ensures.value (judged _ _ _ _ c.parse.result body c.parse.ensures.found c.parse.ensures.none).no_magic

pub returns-clause-version : goal.returns-clause-version
returns-clause-version c =
    let body : HasBody c.in_ok-version.version c.args.bytes.now c.in_ok-rest.rest.now c.in_ok-version.body.now = record { known = c.in_ok-version.ensures.known; front = c.in_ok-rest.ensures.found; next = c.in_ok-version.ensures.found } in
    rw c.ok_or.ensures.value (judged _ _ _ _ c.parse.result body c.parse.ensures.found c.parse.ensures.none).no_version

pub returns-clause-rule : goal.returns-clause-rule
returns-clause-rule c =
    let body : HasBody c.in_ok-version.version c.args.bytes.now c.in_ok-rest.rest.now c.in_ok-version.body.now = record { known = c.in_ok-version.ensures.known; front = c.in_ok-rest.ensures.found; next = c.in_ok-version.ensures.found } in
    rw c.ok_or.ensures.value (judged _ _ _ _ c.parse.result body c.parse.ensures.found c.parse.ensures.none).no_root
