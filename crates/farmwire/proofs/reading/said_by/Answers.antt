use Rattle.farmwire.proofs.reading.said_by.Goals as goal

pub returns-in-Hello : goal.returns-in-Hello
returns-in-Hello c = rw c.in-Hello.is c.hello_of.ensures

pub returns-in-Acquire : goal.returns-in-Acquire
returns-in-Acquire c = rw c.in-Acquire.is c.acquire_of.ensures

pub returns-in-Tenure : goal.returns-in-Tenure
returns-in-Tenure c = rw c.in-Tenure.is c.tenure_of.ensures

pub returns-in-Commit : goal.returns-in-Commit
returns-in-Commit c = rw c.in-Commit.is c.commit_of.ensures

pub returns-in-Release : goal.returns-in-Release
returns-in-Release c = rw c.in-Release.is c.release_of.ensures

pub returns-in-Granted : goal.returns-in-Granted
returns-in-Granted c = rw c.in-Granted.is c.granted_of.ensures

pub returns-in-Committed : goal.returns-in-Committed
returns-in-Committed c = rw c.in-Committed.is c.committed_of.ensures

pub returns-in-Fenced : goal.returns-in-Fenced
returns-in-Fenced c = rw c.in-Fenced.is c.fenced_of.ensures

pub returns-in-Denied : goal.returns-in-Denied
returns-in-Denied c = rw c.in-Denied.is c.denied_of.ensures

pub returns-in-Recall : goal.returns-in-Recall
returns-in-Recall c = rw c.in-Recall.is c.recall_of.ensures

pub returns-in-Fetch : goal.returns-in-Fetch
returns-in-Fetch c = rw c.in-Fetch.is c.fetch_of.ensures

pub returns-in-Blob : goal.returns-in-Blob
returns-in-Blob c = rw c.in-Blob.is c.blob_of.ensures
