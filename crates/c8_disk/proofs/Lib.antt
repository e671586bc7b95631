-- What a disk gives and what a crash may leave follow from its first bytes and its calls; begin with Past.
mod Calls
mod Past
mod Tear
mod Walks
